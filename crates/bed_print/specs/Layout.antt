-- How tokens are written as a text.
use Rattle.std.specs.Prelude.{ℕ, ◌+◌, ◌-◌, ◌*◌, Bool, ◌&&◌, ◌||◌, not, min, nat_eq, if◌then◌else◌, List, [], ◌∷◌, ◌++◌, slice_get, replicate, Option, Some, None, unwrap_or}
use Rattle.std.specs.Fmt.{decimal}
use Rattle.bed_lex.specs.declared.token.Kind.{Kind}
use Rattle.bed_lex.specs.declared.token.Kind.TheVariants as kind
use Rattle.bed_lex.specs.Words.{fixed_words}
use Rattle.bed_read.specs.Classes.{kind_class, BLOCK, CODE, CONS, APP, ELSE, JOIN, SEMICOLON, COMMA, COLON, LEFT_PAREN, RIGHT_PAREN, LEFT_BRACE, RIGHT_BRACE, LEFT_BRACKET, RIGHT_BRACKET, DOT, BAR, AMPERSAND}

-- the bytes of the fixed word at a position; none where there is none
abbrev pub fixed_bytes : ℕ → List ℕ
fixed_bytes w = unwrap_or (slice_get fixed_words w) []

-- the bytes of a token
abbrev pub bytes_of : Kind → List ℕ
bytes_of (kind.Name x) = x.bytes
bytes_of (kind.Number n) = decimal n
bytes_of (kind.Word w) = fixed_bytes w
bytes_of (kind.Fresh n) = 35 ∷ decimal n

-- after `(`, `[` and `&` comes no blank
abbrev pub holds_next : ℕ → Bool
holds_next c = nat_eq c LEFT_PAREN || (nat_eq c LEFT_BRACKET || nat_eq c AMPERSAND)

-- before `)`, `]`, `,`, `;`, `:` and `.` comes no blank
abbrev pub holds_last : ℕ → Bool
holds_last c =
    nat_eq c RIGHT_PAREN || (nat_eq c RIGHT_BRACKET || (nat_eq c COMMA || (nat_eq c SEMICOLON || (nat_eq c COLON || nat_eq c DOT))))

-- between a name, `block`, `code`, `cons` or `app` and `(` comes no blank
abbrev pub takes_list : ℕ → Bool
takes_list c = nat_eq c 0 || (nat_eq c BLOCK || (nat_eq c CODE || (nat_eq c CONS || nat_eq c APP)))

-- two tokens stand side by side
abbrev pub touch : ℕ → ℕ → Bool
touch a b = holds_next a || (holds_last b || (takes_list a && nat_eq b LEFT_PAREN))

-- a new line begins after `;`, `{` and `}`, but for `else` and `join`, and before a further case of a predicate
abbrev pub ends_line : ℕ → ℕ → Bool
ends_line a b =
    nat_eq a SEMICOLON || (nat_eq a LEFT_BRACE || ((nat_eq a RIGHT_BRACE && not (nat_eq b ELSE || nat_eq b JOIN)) || nat_eq b BAR))

-- by how many blanks a line is moved in, inside so many braces, where it begins with a token of this class
abbrev pub indentation : ℕ → ℕ → ℕ
indentation depth b = if nat_eq b BAR then 2 else (if nat_eq b RIGHT_BRACE then 4 * (depth - 1) else 4 * depth)

-- what stands between a token of class a and one of class b: nothing, a new line or a blank
abbrev pub gap : ℕ → ℕ → ℕ → List ℕ
gap depth a b =
    if touch a b then [] else (
    if ends_line a b then 10 ∷ replicate (indentation depth b) 32 else 32 ∷ [])

-- what stands before a token of class b
abbrev pub gap_after : ℕ → Option ℕ → ℕ → List ℕ
gap_after depth None b = []
gap_after depth (Some a) b = gap depth a b

-- how many braces are open after a token, at most 64
abbrev pub depth_after : ℕ → ℕ → ℕ
depth_after depth c = if nat_eq c LEFT_BRACE then min (depth + 1) 64 else (if nat_eq c RIGHT_BRACE then depth - 1 else depth)

-- the text of tokens inside so many braces, after a token of class a; a line feed ends it
abbrev pub text_from : ℕ → Option ℕ → List Kind → List ℕ
text_from depth a [] = 10 ∷ []
text_from depth a (k ∷ ks) =
    gap_after depth a (kind_class k) ++ (bytes_of k ++ text_from (depth_after depth (kind_class k)) (Some (kind_class k)) ks)

-- the text of tokens
abbrev pub text_of : List Kind → List ℕ
text_of ks = text_from 0 None ks
