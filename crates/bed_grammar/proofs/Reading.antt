-- Words for the proofs of functions that read tokens.
use Rattle.std.proofs.Common.{◌≡◌, ◌≤◌, length, arith, inr, List, [], ◌∷◌, ◌++◌, Option, None, Result, Ok, Err, refl, ap, sym, ◌∙◌, subst, append_assoc, append-nil}
use Rattle.bed_grammar.specs.Grammar.{Grammar}
use Rattle.bed_grammar.specs.Exact.{Outcome, to_end, ReportsOutcome}
use Rattle.bed_grammar.specs.Tables.{Tables, IsLl1}
use Rattle.bed_grammar.specs.Parsing.{outcome_map, read_rhs, parse}
use Rattle.bed_grammar.specs.Gives.{Gives, GivesBy}
use Rattle.bed_grammar.specs.declared.refusal.Refusal.{Refusal}
use Rattle.bed_grammar.specs.declared.refusal.Refusal.TheVariants as refusal
use Rattle.bed_grammar.proofs.Parsing.{parse_step}

module _ (G : Grammar) (T : Tables G) (c : IsLl1 G T) (n : G.Nonterminal) (s : List G.Token) where
  -- a nonterminal is read as its production
  pub by_rule : (a : Outcome G.Token G.Limit (G.Tree n)) → outcome_map (G.action n) (read_rhs G T (parse G T) (G.rule n) s) ≡ a → parse G T n s ≡ a
  by_rule a h = parse_step G T c n s ∙ h

  -- the same for a call in tail position
  pub gives_by : (X : Type 0) (view : X → G.Tree n × List G.Token) (result : Result X (Refusal G.Token G.Limit)) (a : Outcome G.Token G.Limit (G.Tree n))
      → outcome_map (G.action n) (read_rhs G T (parse G T) (G.rule n) s) ≡ a → Gives view result a → Gives view result (parse G T n s)
  gives_by X view result a h g = subst (λ z. Gives view result z) (sym (by_rule a h)) g

-- two functions of the value, one after the other
pub outcome_map_twice : {S L U V W : Type 0} (f : V → W) (g : U → V) (a : Outcome S L U) → outcome_map f (outcome_map g a) ≡ outcome_map (λ x. f (g x)) a
outcome_map_twice f g (Ok x) = refl
outcome_map_twice f g (Err e) = refl

gives_all : (S L X V W : Type 0) (f : V → W) (view : X → W × List S) (x : X) (a : Outcome S L V) → outcome_map f a ≡ Ok (view x) → GivesBy f view (Ok x) a
gives_all S L X V W f view x (Ok y) h = let e : (f y.0, y.1) ≡ view x = cc in (y.0, ap (λ z. Ok (y.0, z)) (ap (λ z. z.1) e), sym (ap (λ z. z.0) e))
gives_all S L X V W f view x (Err e) h = cc

outcome_map_err : (S L V W : Type 0) (f : V → W) (a : Outcome S L V) (e : List S × Option L) → outcome_map f a ≡ Err e → a ≡ Err e
outcome_map_err S L V W f (Ok y) e h = cc
outcome_map_err S L V W f (Err d) e h = let z : d ≡ e = cc in ap Err z

-- what gives a function of the value has read the value
pub gives_split : (S L X V W : Type 0) (f : V → W) (view : X → W × List S) (r : Result X (Refusal S L)) (a : Outcome S L V) → Gives view r (outcome_map f a) → GivesBy f view r a
gives_split S L X V W f view (Ok x) a h = gives_all S L X V W f view x a h
gives_split S L X V W f view (Err refusal.Memory) a h = tt
gives_split S L X V W f view (Err (refusal.At rest w)) a h = outcome_map_err S L V W f a (rest.now, w) h

-- a loop that reads a list has pushed one more item
pub pushed : {S L V : Type 0} (whole a b : Outcome S L (List V)) (out new : List V) (x : V) → outcome_map (λ xs. out ++ xs) a ≡ whole → a ≡ outcome_map (λ xs. x ∷ xs) b → new ≡ out ++ x ∷ []
    → outcome_map (λ xs. new ++ xs) b ≡ whole
pushed {S} {L} {V} whole a b out new x i e p = subst (λ o. outcome_map (λ xs. o ++ xs) b ≡ whole) (sym p) (go b ∙ ap (outcome_map (λ xs. out ++ xs)) (sym e) ∙ i)
  where
    go : (b : Outcome S L (List V)) → outcome_map (λ xs. (out ++ x ∷ []) ++ xs) b ≡ outcome_map (λ xs. out ++ xs) (outcome_map (λ xs. x ∷ xs) b)
    go (Ok y) = ap (λ z. Ok (z, y.1)) (append_assoc out (x ∷ []) y.0)
    go (Err e) = refl

-- a loop that reads a list has read all of it
pub finished : {S L V : Type 0} (whole a : Outcome S L (List V)) (out : List V) (rest : List S) → outcome_map (λ xs. out ++ xs) a ≡ whole → a ≡ Ok ([], rest) → whole ≡ Ok (out, rest)
finished whole a out rest i e = sym i ∙ ap (outcome_map (λ xs. out ++ xs)) e ∙ ap (λ z. Ok (z, rest)) (append-nil out)

-- what was left over is reported
pub reports_leftover : {S L V E : Type 0} (memory : E) (error : List S → Option L → E) (a : Outcome S L V) (v : V) (rest : List S) (e : E) → a ≡ Ok (v, rest) → 1 ≤ length rest → e ≡ error rest None
    → ReportsOutcome memory error (to_end a) (Err e)
reports_leftover memory error a v [] e h l f = absurd (omega arith)
reports_leftover memory error a v (t ∷ rest) e h l f = inr ((t ∷ rest), None, f, ap to_end h)

-- a refusal is reported
pub reports_refusal : {S L V E : Type 0} (memory : E) (error : List S → Option L → E) (a : Outcome S L V) (rest : List S) (w : Option L) (e : E) → a ≡ Err (rest, w) → e ≡ error rest w
    → ReportsOutcome memory error (to_end a) (Err e)
reports_refusal memory error a rest w e h f = inr (rest, w, f, ap to_end h)
