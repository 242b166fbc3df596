-- The classes of tokens that the grammar of modules tells apart.
use Rattle.std.specs.Prelude.{◌≡◌, ℕ, ◌+◌, ◌<◌, ◌^◌, ◌&&◌, Bool, true, false, nat_le, cond, length, List, [], ◌∷◌, Option, Some, None}
use Rattle.bed_lex.specs.declared.token.Token.{Token}
use Rattle.bed_lex.specs.declared.token.Kind.{Kind}
use Rattle.bed_lex.specs.declared.token.Kind.TheVariants as kind
use Rattle.bed_lex.specs.Tokens.{is_letter, is_name_byte, fixed_word}

-- The class of a token: names; numbers of at most 4096, which may be reserved, and larger ones; each fixed word, by its
-- position among the fixed words; and fresh variables, which module texts don't have.
abbrev pub kind_class : Kind → ℕ
kind_class (kind.Name x) = 0
kind_class (kind.Number n) = cond (nat_le n 4096) 1 2
kind_class (kind.Word w) = w + 3
kind_class (kind.Fresh n) = 85

abbrev pub class : Token → ℕ
class t = kind_class t.kind

abbrev pub is_none : {A : Type 0} → Option A → Bool
is_none None = true
is_none (Some x) = false

-- bytes that a text can have as a name: a letter or `_` and then letters, digits and `_`, at most 255, and not a fixed word
abbrev pub all_name_bytes : List ℕ → Bool
all_name_bytes [] = true
all_name_bytes (b ∷ bs) = is_name_byte b && all_name_bytes bs

abbrev pub is_name : List ℕ → Bool
is_name [] = false
is_name (b ∷ bs) = (is_letter b && all_name_bytes bs) && (nat_le (length (b ∷ bs)) 255 && is_none (fixed_word (b ∷ bs)))

-- what a token of a module text can be
abbrev pub IsKindOfText : Kind → Type 0
IsKindOfText (kind.Name x) = is_name x.bytes ≡ true
IsKindOfText (kind.Number n) = n < 2 ^ 32
IsKindOfText (kind.Word w) = w < 82
IsKindOfText (kind.Fresh n) = ⊥

-- a token that a module text can have, places set aside
abbrev pub IsLexeme : Token → Type 0
IsLexeme t = IsKindOfText t.kind

-- the classes by name
abbrev pub MODULE : ℕ
MODULE = 3

abbrev pub SIGNATURE : ℕ
SIGNATURE = 4

abbrev pub RESERVING : ℕ
RESERVING = 5

abbrev pub FOR : ℕ
FOR = 6

abbrev pub PRE : ℕ
PRE = 7

abbrev pub POST : ℕ
POST = 8

abbrev pub PREDICATE : ℕ
PREDICATE = 9

abbrev pub IMPORT : ℕ
IMPORT = 10

abbrev pub EXPORT : ℕ
EXPORT = 11

abbrev pub FUNCTION : ℕ
FUNCTION = 12

abbrev pub LOCALS : ℕ
LOCALS = 13

abbrev pub EXISTS : ℕ
EXISTS = 14

abbrev pub EMP : ℕ
EMP = 15

abbrev pub BLOCK : ℕ
BLOCK = 16

abbrev pub CODE : ℕ
CODE = 17

abbrev pub IN : ℕ
IN = 18

abbrev pub NOTIN : ℕ
NOTIN = 19

abbrev pub NIL : ℕ
NIL = 20

abbrev pub CONS : ℕ
CONS = 21

abbrev pub APP : ℕ
APP = 22

abbrev pub OLD : ℕ
OLD = 23

abbrev pub RESULT : ℕ
RESULT = 24

abbrev pub WORD : ℕ
WORD = 25

abbrev pub SEQ : ℕ
SEQ = 26

abbrev pub IF : ℕ
IF = 27

abbrev pub ELSE : ℕ
ELSE = 28

abbrev pub JOIN : ℕ
JOIN = 29

abbrev pub WHILE : ℕ
WHILE = 30

abbrev pub INVARIANT : ℕ
INVARIANT = 31

abbrev pub CALL : ℕ
CALL = 32

abbrev pub VIA : ℕ
VIA = 33

abbrev pub USING : ℕ
USING = 34

abbrev pub AFTER : ℕ
AFTER = 35

abbrev pub RETURN : ℕ
RETURN = 36

abbrev pub BYTE : ℕ
BYTE = 37

abbrev pub AND : ℕ
AND = 38

abbrev pub OR : ℕ
OR = 39

abbrev pub XOR : ℕ
XOR = 40

abbrev pub FIND : ℕ
FIND = 41

abbrev pub WALK : ℕ
WALK = 42

abbrev pub OF : ℕ
OF = 43

abbrev pub AS : ℕ
AS = 44

abbrev pub KEEP : ℕ
KEEP = 45

abbrev pub HINT : ℕ
HINT = 46

abbrev pub UNFOLD : ℕ
UNFOLD = 47

abbrev pub AT : ℕ
AT = 48

abbrev pub FOLD : ℕ
FOLD = 49

abbrev pub CASE : ℕ
CASE = 50

abbrev pub APPEND : ℕ
APPEND = 51

abbrev pub DIVIDE : ℕ
DIVIDE = 52

abbrev pub MERGE : ℕ
MERGE = 53

abbrev pub BYTES : ℕ
BYTES = 54

abbrev pub CELL : ℕ
CELL = 55

abbrev pub UNCELL : ℕ
UNCELL = 56

abbrev pub DROP : ℕ
DROP = 57

abbrev pub CLAIM : ℕ
CLAIM = 58

abbrev pub WHEN : ℕ
WHEN = 59

abbrev pub GIVE : ℕ
GIVE = 60

abbrev pub SEMICOLON : ℕ
SEMICOLON = 61

abbrev pub COMMA : ℕ
COMMA = 62

abbrev pub COLON : ℕ
COLON = 63

abbrev pub LEFT_PAREN : ℕ
LEFT_PAREN = 64

abbrev pub RIGHT_PAREN : ℕ
RIGHT_PAREN = 65

abbrev pub LEFT_BRACE : ℕ
LEFT_BRACE = 66

abbrev pub RIGHT_BRACE : ℕ
RIGHT_BRACE = 67

abbrev pub LEFT_BRACKET : ℕ
LEFT_BRACKET = 68

abbrev pub RIGHT_BRACKET : ℕ
RIGHT_BRACKET = 69

abbrev pub DOT : ℕ
DOT = 70

abbrev pub BAR : ℕ
BAR = 71

abbrev pub ARROW : ℕ
ARROW = 72

abbrev pub BYTE_ARROW : ℕ
BYTE_ARROW = 73

abbrev pub ASSIGN : ℕ
ASSIGN = 74

abbrev pub LESS : ℕ
LESS = 75

abbrev pub AT_MOST : ℕ
AT_MOST = 76

abbrev pub EQUAL : ℕ
EQUAL = 77

abbrev pub SAME : ℕ
SAME = 78

abbrev pub UNEQUAL : ℕ
UNEQUAL = 79

abbrev pub PLUS : ℕ
PLUS = 80

abbrev pub MINUS : ℕ
MINUS = 81

abbrev pub STAR : ℕ
STAR = 82

abbrev pub AMPERSAND : ℕ
AMPERSAND = 83

abbrev pub HOLE : ℕ
HOLE = 84
