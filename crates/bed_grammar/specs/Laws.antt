-- What holds of every grammar that one token of foresight decides.
use Rattle.std.specs.Prelude.{◌≡◌, List, Option}
use Rattle.bed_grammar.specs.Grammar.{Grammar, ref, unmarked, Derives}
use Rattle.bed_grammar.specs.Exact.{FirstError, IsExactPrefix, IsExact, to_end}
use Rattle.bed_grammar.specs.Tables.{Tables}
use Rattle.bed_grammar.specs.Parsing.{parse, read_rhs, outcome_map}

-- Reading a nonterminal is reading its production, with the production's tree.
abbrev pub ExpandsItsProduction : (G : Grammar) → Tables G → Type 0
ExpandsItsProduction G T = (n : G.Nonterminal) (s : List G.Token) → parse G T n s ≡ outcome_map (G.action n) (read_rhs G T (parse G T) (G.rule n) s)

-- Reading a nonterminal as far as it goes gives the longest prefix that is a text of it, or the first wrong token.
abbrev pub IsExactOnPrefixes : (G : Grammar) → Tables G → Type 0
IsExactOnPrefixes G T = (n : G.Nonterminal) (s : List G.Token) → IsExactPrefix G.IsLexeme (Derives G (ref n)) s (parse G T n s)

-- Reading a nonterminal to the end gives the value of all the tokens, or the first wrong token.
abbrev pub IsExactOnWholes : (G : Grammar) → Tables G → Type 0
IsExactOnWholes G T = (n : G.Nonterminal) (s : List G.Token) → IsExact G.IsLexeme (Derives G (ref n)) s (to_end (parse G T n s))

-- No tokens are texts of a nonterminal with two values.
abbrev pub IsUnambiguous : Grammar → Type 0
IsUnambiguous G = (n : G.Nonterminal) (s : List G.Token) (x y : G.Tree n) → Derives G (ref n) (unmarked s) x → Derives G (ref n) (unmarked s) y → x ≡ y

-- The first wrong token of a list is one, and so is the limit that it passes.
abbrev pub HasOneRefusal : Grammar → Type 0
HasOneRefusal G = (n : G.Nonterminal) (s rest other : List G.Token) (w z : Option G.Limit)
    → FirstError G.IsLexeme (Derives G (ref n)) s rest w → FirstError G.IsLexeme (Derives G (ref n)) s other z → (rest ≡ other) × (w ≡ z)
