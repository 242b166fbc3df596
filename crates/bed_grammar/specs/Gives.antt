-- What a function that reads tokens returned, against what reading gives.
use Rattle.std.specs.Prelude.{◌≡◌, List, Result, Ok, Err}
use Rattle.bed_grammar.specs.Exact.{Outcome}
use Rattle.bed_grammar.specs.declared.refusal.Refusal.{Refusal}
use Rattle.bed_grammar.specs.declared.refusal.Refusal.TheVariants as refusal

-- Reading refuses where the function says, unless memory ran out.
abbrev pub RefusesAs : {S L V : Type 0} → Refusal S L → Outcome S L V → Type 0
RefusesAs refusal.Memory outcome = Unit {0}
RefusesAs (refusal.At rest w) outcome = outcome ≡ Err (rest.now, w)

-- The function returned what reading gives, as the view shows it, unless memory ran out.
abbrev pub Gives : {S L V X : Type 0} → (X → V × List S) → Result X (Refusal S L) → Outcome S L V → Type 0
Gives view (Ok x) outcome = outcome ≡ Ok (view x)
Gives view (Err e) outcome = RefusesAs e outcome

-- The same where the function made its result from what was read, by f.
abbrev pub GivesBy : {S L V W X : Type 0} → (V → W) → (X → W × List S) → Result X (Refusal S L) → Outcome S L V → Type 0
GivesBy {V = V} f view (Ok x) outcome = (v : V) × (outcome ≡ Ok (v, (view x).1)) × ((view x).0 ≡ f v)
GivesBy f view (Err e) outcome = RefusesAs e outcome
