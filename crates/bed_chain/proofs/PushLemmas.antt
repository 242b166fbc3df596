-- What the code puts behind other edges is the links of the definition.
use Rattle.std.proofs.Common.{◌≡◌, ℕ, pos, Bool, true, false, if◌then◌else◌, Result, Ok, Err, List, [], ◌∷◌, ◌++◌, refl, ap, ap₂, sym, ◌∙◌, subst}
use Rattle.std.specs.Prelude.{OnOk}
use Rattle.bed_lang.specs.declared.form.Form.{Form}
use Rattle.bed_lang.specs.declared.word.Word.{Word, Number}
use Rattle.bed_lang.specs.Forms.{word_form}
use Rattle.bed_deriv.specs.declared.derivation.Edge.TheVariants.{Z}
use Rattle.bed_deriv.specs.Fresh.{known_word}
use Rattle.bed_deriv.specs.Chains.{leg}
use Rattle.bed_diff.specs.declared.constraint.Edge3.{Edge3}
use Rattle.bed_forms.specs.Rebuilt.{rebuilt_word}
use Rattle.bed_chain.specs.declared.links.Links.{Links}
use Rattle.bed_chain.specs.Graph.{place_of, link, edge_between, least_links}
use Rattle.bed_chain.specs.Tables.{Added}
use Rattle.bed_chain.proofs.RebuiltLemmas.{rebuilt_form}

pub on_both : {A E : Type 0} {P Q R : Type 0} (r : Result A E) → (P → Q → R) → OnOk r P → OnOk r Q → OnOk r R
on_both (Ok x) f p q = f p q
on_both (Err e) f p q = p

-- the edge from 0 to a node that is named anew
pub least_added : (forms : List Form) (next : ℕ) (w : Word) (zero' at : ℕ) (old new : Links) → known_word next w ≡ false → zero' ≡ place_of (word_form (Number 0)) forms → at ≡ place_of (word_form w) forms
    → new.edges ≡ old.edges ++ (if known_word next (rebuilt_word w) then (record { from = zero'; to = at; weight = pos 0 }) ∷ [] else [])
    → new.labels ≡ old.labels ++ (if known_word next (rebuilt_word w) then Z (rebuilt_word w) ∷ [] else []) → Added forms (least_links next w) old new
least_added forms next w zero' at old new unknown z a edges labels = by (known_word next (rebuilt_word w)) refl
  where
    edge : Edge3
    edge = record { from = zero'; to = at; weight = pos 0 }

    same : edge ≡ edge_between forms (leg (Number 0) (rebuilt_word w) 0 0)
    same = ap₂ (λ (f t : ℕ). record { from = f; to = t; weight = pos 0 }) z (a ∙ ap (λ f. place_of f forms) (sym (rebuilt_form w)))

    by : (b : Bool) → known_word next (rebuilt_word w) ≡ b → Added forms (least_links next w) old new
    by true known =
        let links : least_links next w ≡ link (Z (rebuilt_word w)) (leg (Number 0) (rebuilt_word w) 0 0) ∷ [] = rw (unknown, known) refl in
        subst (λ l. Added forms l old new) (sym links) (record {
          edges = edges ∙ ap (λ b. old.edges ++ (if b then edge ∷ [] else [])) known ∙ ap (λ e. old.edges ++ e ∷ []) same;
          labels = labels ∙ ap (λ b. old.labels ++ (if b then Z (rebuilt_word w) ∷ [] else [])) known;
        })
    by false known =
        let links : least_links next w ≡ [] = rw (unknown, known) refl in
        subst (λ l. Added forms l old new) (sym links) (record {
          edges = edges ∙ ap (λ b. old.edges ++ (if b then edge ∷ [] else [])) known;
          labels = labels ∙ ap (λ b. old.labels ++ (if b then Z (rebuilt_word w) ∷ [] else [])) known;
        })
