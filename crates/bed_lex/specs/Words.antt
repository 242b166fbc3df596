-- The fixed words of a text: reserved words, marks and the hole.
use Rattle.std.specs.Prelude.{ℕ, List, [], ◌∷◌, ◌++◌, codes}

-- the 58 reserved words: none of them is a name
unfoldable pub reserved_words : List (List ℕ)
reserved_words =
    codes "module" ∷ codes "signature" ∷ codes "reserving" ∷ codes "for" ∷ codes "pre" ∷ codes "post" ∷ codes "predicate" ∷ codes "import" ∷
    codes "export" ∷ codes "function" ∷ codes "locals" ∷ codes "exists" ∷ codes "emp" ∷ codes "block" ∷ codes "code" ∷ codes "in" ∷ codes "notin" ∷
    codes "nil" ∷ codes "cons" ∷ codes "app" ∷ codes "old" ∷ codes "result" ∷ codes "word" ∷ codes "seq" ∷ codes "if" ∷ codes "else" ∷ codes "join" ∷
    codes "while" ∷ codes "invariant" ∷ codes "call" ∷ codes "via" ∷ codes "using" ∷ codes "after" ∷ codes "return" ∷ codes "byte" ∷ codes "and" ∷
    codes "or" ∷ codes "xor" ∷ codes "find" ∷ codes "walk" ∷ codes "of" ∷ codes "as" ∷ codes "keep" ∷ codes "hint" ∷ codes "unfold" ∷ codes "at" ∷
    codes "fold" ∷ codes "case" ∷ codes "append" ∷ codes "divide" ∷ codes "merge" ∷ codes "bytes" ∷ codes "cell" ∷ codes "uncell" ∷ codes "drop" ∷
    codes "claim" ∷ codes "when" ∷ codes "give" ∷ []

-- the 23 marks
unfoldable pub marks : List (List ℕ)
marks =
    codes ";" ∷ codes "," ∷ codes ":" ∷ codes "(" ∷ codes ")" ∷ codes "{" ∷ codes "}" ∷ codes "[" ∷ codes "]" ∷ codes "." ∷ codes "|" ∷ codes "|->" ∷
    codes "|->b" ∷ codes "<-" ∷ codes "<" ∷ codes "<=" ∷ codes "=" ∷ codes "==" ∷ codes "!=" ∷ codes "+" ∷ codes "-" ∷ codes "*" ∷ codes "&" ∷ []

-- the marks again, a longer one before a shorter one
unfoldable pub longest_first : List (List ℕ)
longest_first =
    codes "|->b" ∷ codes "|->" ∷ codes "<-" ∷ codes "<=" ∷ codes "==" ∷ codes "!=" ∷ codes ";" ∷ codes "," ∷ codes ":" ∷ codes "(" ∷ codes ")" ∷
    codes "{" ∷ codes "}" ∷ codes "[" ∷ codes "]" ∷ codes "." ∷ codes "|" ∷ codes "<" ∷ codes "=" ∷ codes "+" ∷ codes "-" ∷ codes "*" ∷ codes "&" ∷ []

-- all fixed words: a token names one by its position here, from 0
unfoldable pub fixed_words : List (List ℕ)
fixed_words = reserved_words ++ (marks ++ codes "_" ∷ [])
