-- List segments, by the prelude's predicate.
use Rattle.std.proofs.Common.{◌≡◌, ◌≢◌, ℕ, suc, ◌+◌, Some, List, [], ◌∷◌, map, codes, refl, sym, ◌∙◌, ap₂, subst, subst₂}
use Rattle.bed_lang.specs.Numbers.{wrap}
use Rattle.bed_machine.specs.Memory.{Memory, empty}
use Rattle.bed_lang.specs.declared.word.Var.TheVariants as var
use Rattle.bed_lang.specs.declared.word.Word.{Number, Add}
use Rattle.bed_lang.specs.Values.{Values, Named, set_word, set_list, value, list_value}
use Rattle.bed_lang.proofs.ValueLaws.{value-Number, value-Var, value-Add, list_value-Var, list_value-Nil, list_value-Cons}
use Rattle.bed_sat.specs.Parts.{Joins}
use Rattle.bed_sat.specs.Cells.{IsCell}
use Rattle.bed_sat.specs.Assertions.{WordValue, ListValue, blank, set_params, World, meaning}
use Rattle.bed_lang.specs.Prelude.{name, word, sequence, lseg, empty_segment, longer_segment}
use Rattle.bed_lang.specs.Lookups.{predicate_named}
use Rattle.bed_sat.proofs.PartLaws.{joins_comm, to_empty}

module _ (w : World) (is : predicate_named w.decls (codes "lseg") ≡ Some lseg) where
  word_value : (ν : Values) (x : List ℕ) → value w.labels ν (word x) ≡ wrap (ν.words (Named x))
  word_value ν x = value-Var w.labels ν (var.Named (name x))

  list_of : (ν : Values) (x : List ℕ) → list_value w.labels ν (sequence x) ≡ map wrap (ν.lists (Named x))
  list_of ν x = list_value-Var w.labels ν (var.Named (name x))

  -- a segment to its own start is empty
  pub segment_empty : (k p : ℕ) → meaning w (suc k) (codes "lseg") (WordValue p ∷ WordValue p ∷ ListValue [] ∷ []) empty
  segment_empty k p =
      let ν = set_params blank lseg.params (WordValue p ∷ WordValue p ∷ ListValue [] ∷ []) in (
        lseg,
        is,
        0,
        empty_segment,
        refl,
        (
          empty,
          empty,
          to_empty empty,
          (refl, word_value ν (codes "p") ∙ sym (word_value ν (codes "q"))),
          (empty, empty, to_empty empty, (refl, list_of ν (codes "s") ∙ sym (list_value-Nil w.labels ν)), refl),
        ),
      )

  -- a node before a segment is a segment
  pub segment_longer : (k p q v n : ℕ) (t : List ℕ) (whole first cells second others : Memory) → wrap p ≢ 0
      → Joins whole first cells → IsCell (wrap p) (wrap v) first
      → Joins cells second others → IsCell (wrap (wrap p + 4)) (wrap n) second
      → meaning w k (codes "lseg") (WordValue (wrap n) ∷ WordValue (wrap q) ∷ ListValue (map wrap t) ∷ []) others
      → meaning w (suc k) (codes "lseg") (WordValue p ∷ WordValue q ∷ ListValue (v ∷ t) ∷ []) whole
  segment_longer k p q v n t whole first cells second others some j c1 i c2 rest =
      let ν0 = set_params blank lseg.params (WordValue p ∷ WordValue q ∷ ListValue (v ∷ t) ∷ []) in
      let ν = set_list (set_word (set_word ν0 (Named (codes "v")) v) (Named (codes "n")) n) (Named (codes "t")) t in
      let at_p : value w.labels ν (word (codes "p")) ≡ wrap p = word_value ν (codes "p") in
      let at_q : value w.labels ν (word (codes "q")) ≡ wrap q = word_value ν (codes "q") in
      let at_v : value w.labels ν (word (codes "v")) ≡ wrap v = word_value ν (codes "v") in
      let at_n : value w.labels ν (word (codes "n")) ≡ wrap n = word_value ν (codes "n") in
      let at_t : list_value w.labels ν (sequence (codes "t")) ≡ map wrap t = list_of ν (codes "t") in
      let at_s : list_value w.labels ν (sequence (codes "s")) ≡ wrap v ∷ map wrap t = list_of ν (codes "s") in
      let four : value w.labels ν (Number 4) ≡ 4 = value-Number w.labels ν 4 in
      let next : value w.labels ν (Add (word (codes "p")) (Number 4)) ≡ wrap (wrap p + 4) =
      value-Add w.labels ν (word (codes "p")) (Number 4) ∙ ap₂ (λ a b. wrap (a + b)) at_p four in (
        lseg,
        is,
        1,
        longer_segment,
        refl,
        (
          v,
          (
            n,
            (
              t,
              (
                empty,
                whole,
                joins_comm (to_empty whole),
                (refl, λ e. some (sym at_p ∙ e ∙ value-Number w.labels ν 0)),
                (
                  empty,
                  whole,
                  joins_comm (to_empty whole),
                  (refl, at_s ∙ sym (list_value-Cons w.labels ν (word (codes "v")) (sequence (codes "t")) ∙ ap₂ (λ x y. x ∷ y) at_v at_t)),
                  (
                    first,
                    cells,
                    j,
                    subst₂ (λ x y. IsCell x y first) (sym at_p) (sym at_v) c1,
                    (
                      second,
                      others,
                      i,
                      subst₂ (λ x y. IsCell x y second) (sym next) (sym at_n) c2,
                      (
                        others,
                        empty,
                        to_empty others,
                        subst (λ vs. meaning w k (codes "lseg") vs others) (ap₂ (λ x y. WordValue x ∷ y) (sym at_n) (ap₂ (λ x y. WordValue x ∷ ListValue y ∷ []) (sym at_q) (sym at_t))) rest,
                        refl,
                      ),
                    ),
                  ),
                ),
              ),
            ),
          ),
        ),
      )
