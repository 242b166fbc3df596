-- The classes of tokens that the grammar of proof texts tells apart.
use Rattle.std.specs.Prelude.{◌≡◌, ℕ, ◌+◌, ◌<◌, ◌^◌, ◌&&◌, Bool, true, false, nat_eq, nat_le, if◌then◌else◌, length, List, [], ◌∷◌, codes, Option, Some, None}
use Rattle.std.specs.Str.{bytes_eq}
use Rattle.bed_deriv.specs.declared.derivation.Rule.{Rule}
use Rattle.bed_deriv.specs.declared.derivation.Rule.TheVariants as rule
use Rattle.bed_deriv.specs.declared.derivation.Edge.{Edge}
use Rattle.bed_lex.specs.declared.token.Token.{Token}
use Rattle.bed_lex.specs.declared.token.Kind.{Kind}
use Rattle.bed_lex.specs.declared.token.Kind.TheVariants as kind
use Rattle.bed_lex.specs.Tokens.{is_letter, is_name_byte, fixed_word}
use Rattle.bed_proof_text.specs.Spellings.{rule_of_word, edge_of_word}

-- the classes by name: names that spell nothing, the number 1 and other numbers, the fixed words, by their position among
-- the fixed words and 3, and fresh variables; names that spell a rule, `chain`, `proofs`, `condition`, an edge alone, and `z`
abbrev pub NAME : ℕ
NAME = 0

abbrev pub ONE : ℕ
ONE = 1

abbrev pub NUMBER : ℕ
NUMBER = 2

abbrev pub CODE : ℕ
CODE = 17

abbrev pub IN : ℕ
IN = 18

abbrev pub NOTIN : ℕ
NOTIN = 19

abbrev pub NIL : ℕ
NIL = 20

abbrev pub CONS : ℕ
CONS = 21

abbrev pub APP : ℕ
APP = 22

abbrev pub OLD : ℕ
OLD = 23

abbrev pub RESULT : ℕ
RESULT = 24

abbrev pub UNFOLD : ℕ
UNFOLD = 47

abbrev pub FOLD : ℕ
FOLD = 49

abbrev pub APPEND : ℕ
APPEND = 51

abbrev pub DIVIDE : ℕ
DIVIDE = 52

abbrev pub MERGE : ℕ
MERGE = 53

abbrev pub CLAIM : ℕ
CLAIM = 58

abbrev pub WHEN : ℕ
WHEN = 59

abbrev pub SEMICOLON : ℕ
SEMICOLON = 61

abbrev pub COMMA : ℕ
COMMA = 62

abbrev pub COLON : ℕ
COLON = 63

abbrev pub LEFT_PAREN : ℕ
LEFT_PAREN = 64

abbrev pub RIGHT_PAREN : ℕ
RIGHT_PAREN = 65

abbrev pub LEFT_BRACE : ℕ
LEFT_BRACE = 66

abbrev pub RIGHT_BRACE : ℕ
RIGHT_BRACE = 67

abbrev pub LEFT_BRACKET : ℕ
LEFT_BRACKET = 68

abbrev pub RIGHT_BRACKET : ℕ
RIGHT_BRACKET = 69

abbrev pub LESS : ℕ
LESS = 75

abbrev pub AT_MOST : ℕ
AT_MOST = 76

abbrev pub EQUAL : ℕ
EQUAL = 77

abbrev pub SAME : ℕ
SAME = 78

abbrev pub UNEQUAL : ℕ
UNEQUAL = 79

abbrev pub PLUS : ℕ
PLUS = 80

abbrev pub MINUS : ℕ
MINUS = 81

abbrev pub STAR : ℕ
STAR = 82

abbrev pub AMPERSAND : ℕ
AMPERSAND = 83

abbrev pub FRESH : ℕ
FRESH = 85

abbrev pub RULE : ℕ
RULE = 86

abbrev pub CHAIN : ℕ
CHAIN = 87

abbrev pub PROOFS : ℕ
PROOFS = 88

abbrev pub CONDITION : ℕ
CONDITION = 89

abbrev pub EDGE : ℕ
EDGE = 90

abbrev pub Z_EDGE : ℕ
Z_EDGE = 91

abbrev pub edge_class : Option Edge → ℕ
edge_class (Some e) = EDGE
edge_class None = NAME

-- a name that is no rule
abbrev pub word_class : List ℕ → ℕ
word_class bytes =
    if bytes_eq bytes (codes "proofs") then PROOFS else (
    if bytes_eq bytes (codes "condition") then CONDITION else (
    if bytes_eq bytes (codes "z") then Z_EDGE else edge_class (edge_of_word bytes)))

abbrev pub rule_class : Option Rule → ℕ → ℕ
rule_class (Some rule.Chain) other = CHAIN
rule_class (Some _) other = RULE
rule_class None other = other

-- the class of a name, by its spelling
unfoldable pub name_class : List ℕ → ℕ
name_class bytes = rule_class (rule_of_word bytes) (word_class bytes)

abbrev pub kind_class : Kind → ℕ
kind_class (kind.Name x) = name_class x.bytes
kind_class (kind.Number n) = if nat_eq n 1 then ONE else NUMBER
kind_class (kind.Word w) = w + 3
kind_class (kind.Fresh n) = FRESH

abbrev pub class : Token → ℕ
class t = kind_class t.kind

abbrev pub is_none : {A : Type 0} → Option A → Bool
is_none None = true
is_none (Some x) = false

-- bytes that a text can have as a name: a letter or `_` and then letters, digits and `_`, at most 255, and not a fixed word
abbrev pub all_name_bytes : List ℕ → Bool
all_name_bytes [] = true
all_name_bytes (b ∷ bs) = is_name_byte b && all_name_bytes bs

abbrev pub is_name : List ℕ → Bool
is_name [] = false
is_name (b ∷ bs) = (is_letter b && all_name_bytes bs) && (nat_le (length (b ∷ bs)) 255 && is_none (fixed_word (b ∷ bs)))

-- what a token of a proof text can be
abbrev pub IsKindOfText : Kind → Type 0
IsKindOfText (kind.Name x) = is_name x.bytes ≡ true
IsKindOfText (kind.Number n) = n < 2 ^ 32
IsKindOfText (kind.Word w) = w < 82
IsKindOfText (kind.Fresh n) = n < 2 ^ 32

-- a token that a proof text can have, places set aside
abbrev pub IsLexeme : Token → Type 0
IsLexeme t = IsKindOfText t.kind
