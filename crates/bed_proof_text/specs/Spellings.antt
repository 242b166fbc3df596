-- How rules and edges are spelled.
use Rattle.std.specs.Prelude.{ℕ, nat_eq, false, if◌then◌else◌, List, [], ◌∷◌, codes, Option, Some, None}
use Rattle.std.specs.Str.{bytes_eq}
use Rattle.bed_lex.specs.Numbers.{digits_value, that_fits}
use Rattle.bed_deriv.specs.declared.derivation.Rule.{Rule}
use Rattle.bed_deriv.specs.declared.derivation.Rule.TheVariants as rule
use Rattle.bed_deriv.specs.declared.derivation.Edge.{Edge}
use Rattle.bed_deriv.specs.declared.derivation.Edge.TheVariants as edge

-- the thirty rules, by their words
unfoldable pub rule_words : List (List ℕ × Rule)
rule_words =
    (codes "hyp", rule.Hyp) ∷ (codes "norm", rule.Norm) ∷ (codes "comb", rule.Comb) ∷ (codes "solve", rule.Solve) ∷ (codes "uncons", rule.Uncons) ∷
    (codes "chain", rule.Chain) ∷ (codes "order", rule.Order) ∷ (codes "cut", rule.Cut) ∷ (codes "carry", rule.Carry) ∷ (codes "split", rule.Split) ∷
    (codes "absurd", rule.Absurd) ∷ (codes "void", rule.Void) ∷ (codes "member", rule.Member) ∷ (codes "lacks", rule.Lacks) ∷ (codes "part", rule.Part) ∷
    (codes "one", rule.One) ∷ (codes "distinct", rule.Distinct) ∷ (codes "bound", rule.Bound) ∷ (codes "label", rule.Label) ∷ (codes "claim", rule.Claim) ∷
    (codes "when", rule.When) ∷ (codes "never", rule.Never) ∷ (codes "unfold", rule.Unfold) ∷ (codes "fold", rule.Fold) ∷ (codes "append", rule.Append) ∷
    (codes "divide", rule.Divide) ∷ (codes "merge", rule.Merge) ∷ (codes "shape", rule.Shape) ∷ (codes "step", rule.Step) ∷ (codes "finish", rule.Finish) ∷ []

-- the first of these words that has these bytes
abbrev pub word_among : {A : Type 0} → List (List ℕ × A) → List ℕ → Option A
word_among [] bytes = None
word_among (x ∷ xs) bytes = if bytes_eq x.0 bytes then Some x.1 else word_among xs bytes

-- the rule of a word
unfoldable pub rule_of_word : List ℕ → Option Rule
rule_of_word bytes = word_among rule_words bytes

-- an edge with a number, by its letter
abbrev pub edge_of_letter : ℕ → ℕ → Option Edge
edge_of_letter b n =
    if nat_eq b 102 then Some (edge.F n) else (
    if nat_eq b 103 then Some (edge.G n) else (
    if nat_eq b 120 then Some (edge.X n) else (
    if nat_eq b 121 then Some (edge.Y n) else (
    if nat_eq b 112 then Some (edge.P n) else (
    if nat_eq b 113 then Some (edge.Q n) else (
    if nat_eq b 114 then Some (edge.R n) else (
    if nat_eq b 115 then Some (edge.S n) else (
    if nat_eq b 107 then Some (edge.K n) else None))))))))

abbrev pub edge_numbered : ℕ → Option ℕ → Option Edge
edge_numbered b None = None
edge_numbered b (Some n) = edge_of_letter b n

-- the edge that a word spells alone: `h`, or a letter and the decimal digits of its number, which is at most 4294967295
unfoldable pub edge_of_word : List ℕ → Option Edge
edge_of_word [] = None
edge_of_word (b ∷ []) = if nat_eq b 104 then Some edge.H else None
edge_of_word (b ∷ c ∷ cs) = edge_numbered b (that_fits (digits_value false 0 (c ∷ cs)))
