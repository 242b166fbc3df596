-- Keys that are vectors of bytes: what a change at one name leaves at another.
use Rattle.std.proofs.Common.{◌≡◌, ◌≢◌, ◌∙◌, sym, true, false, List, ℕ, Option, Vec}
use Rattle.std.specs.Ordering.{nat_cmp, is_eq}
use Rattle.std.specs.Cmp.{eq_by_cmp_equiv}
use Rattle.std.specs.Cmp.Lexicographic.{slice_cmp, nat_list_cmp_total, bytes_decides}
use Rattle.std.specs.Map.{KeepsOthers}
use Rattle.std.specs.BTreeMap.{BTreeMap, get_by, UpdatesBy}
use Rattle.std.specs.declared.alloc.Global.{Global}
use Rattle.std.proofs.lemmas.Map.Text.{is_eq-slice_cmp}
use Rattle.std.proofs.lemmas.Bool.{false_from_ne_true}

-- a name that is another ties with no key that ties with the first
apart : (first other key : List ℕ) → other ≢ first → is_eq (slice_cmp nat_cmp first key) ≡ true → is_eq (slice_cmp nat_cmp other key) ≡ false
apart first other key differs tie =
    false_from_ne_true _ (λ also. differs ((bytes_decides other key).0 (sym (is_eq-slice_cmp other key) ∙ also) ∙ sym ((bytes_decides first key).0 (sym (is_eq-slice_cmp first key) ∙ tie))))

pub other_names : {X : Type 0} (before after : BTreeMap (Vec ℕ Global) X) (name : List ℕ) (value : Option X)
    → UpdatesBy (λ x y. slice_cmp nat_cmp x.items y.items) (λ key. slice_cmp nat_cmp name key.items) before after value
    → (other : List ℕ) → other ≢ name → get_by (λ key. slice_cmp nat_cmp other key.items) after ≡ get_by (λ key. slice_cmp nat_cmp other key.items) before
unfolding KeepsOthers
other_names before after name value updates other differs =
    updates.3 _ (λ x y. (eq_by_cmp_equiv nat_list_cmp_total).congr other x.items y.items) (λ key. apart name other key.items differs)
