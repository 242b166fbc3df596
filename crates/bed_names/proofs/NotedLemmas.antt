-- Faults that are noted one after the other.
use Rattle.std.proofs.Common.{◌≡◌, ℕ, suc, ◌+◌, ◌<◌, length, take, drop, get_or, drop-cons, Bool, ◌||◌, is_some, add-one, ◌∙◌, sym, ap, refl, List, [], ◌∷◌, ◌++◌, Option}
use Rattle.std.proofs.lemmas.List.{take_more, map-append}
use Rattle.bed_lang.specs.declared.word.Name.{Name}
use Rattle.bed_lang.specs.declared.logic.Bind.{Bind}
use Rattle.bed_names.specs.declared.error.NameError.{NameError}
use Rattle.bed_names.specs.declared.error.NameError.TheVariants.{Twice}
use Rattle.bed_names.specs.Names.{is_among, sort_of}
use Rattle.bed_names.specs.Terms.{twice_after, bind_names}
use Rattle.bed_names.specs.Faults.{noted, earlier, all_faults, fault_if}

pub noted_append : (found : Option NameError) (xs ys : List NameError) → noted found (xs ++ ys) ≡ noted (noted found xs) ys
noted_append found [] ys = refl
noted_append found (x ∷ xs) ys = noted_append (earlier found x) xs ys

-- what is noted of two lists of faults, one after the other
pub two_notes : (found first both : Option NameError) (xs ys zs : List NameError)
    → zs ≡ xs ++ ys → first ≡ noted found xs → both ≡ noted first ys → both ≡ noted found zs
two_notes found first both xs ys zs e h k =
    k ∙ ap (λ r. noted r ys) h ∙ sym (noted_append found xs ys) ∙ ap (noted found) (sym e)

-- one more item of a list
pub all_step : {T : Type 0} (faults : T → List NameError) (found next whole : Option NameError) (items : List T) (i : ℕ) (item : T)
    → i < length items → item ≡ get_or items i item → next ≡ noted found (faults item)
    → noted found (all_faults faults (drop i items)) ≡ whole → noted next (all_faults faults (drop (i + 1) items)) ≡ whole
all_step faults found next whole items i item lt is e h =
    rw add-one (ap (λ r. noted r (all_faults faults (drop (suc i) items))) e
    ∙ sym (noted_append found (faults item) (all_faults faults (drop (suc i) items)))
    ∙ ap (λ x. noted found (faults x ++ all_faults faults (drop (suc i) items))) is
    ∙ ap (λ xs. noted found (all_faults faults xs)) (sym (drop-cons items i item lt))
    ∙ h)

-- one more name of a list is declared
twice_step : (names : List Bind) (found next whole : Option NameError) (before more : List Name) (x : Name) (is : Bool)
    → is ≡ (is_some (sort_of names x) || is_among before x) → next ≡ noted found (fault_if is (Twice x.at))
    → noted found (twice_after names before (x ∷ more)) ≡ whole → noted next (twice_after names (before ++ x ∷ []) more) ≡ whole
twice_step names found next whole before more x is e h w =
    ap (λ r. noted r (twice_after names (before ++ x ∷ []) more)) h
    ∙ sym (noted_append found (fault_if is (Twice x.at)) (twice_after names (before ++ x ∷ []) more))
    ∙ ap (λ b. noted found (fault_if b (Twice x.at) ++ twice_after names (before ++ x ∷ []) more)) e
    ∙ w

pub twice_name_step : (names : List Bind) (found next whole : Option NameError) (xs : List Name) (i : ℕ) (x : Name) (is : Bool)
    → i < length xs → x ≡ get_or xs i x
    → is ≡ (is_some (sort_of names x) || is_among (take i xs) x) → next ≡ noted found (fault_if is (Twice x.at))
    → noted found (twice_after names (take i xs) (drop i xs)) ≡ whole
    → noted next (twice_after names (take (i + 1) xs) (drop (i + 1) xs)) ≡ whole
twice_name_step names found next whole xs i x is lt e t h w =
    ap (λ ys. noted next (twice_after names ys (drop (i + 1) xs))) (take_more xs i x lt ∙ ap (λ y. take i xs ++ y ∷ []) (sym e))
    ∙ rw add-one (twice_step names found next whole (take i xs) (drop (suc i) xs) x is t h
    (ap (λ y. noted found (twice_after names (take i xs) (y ∷ drop (suc i) xs))) e
    ∙ ap (λ ys. noted found (twice_after names (take i xs) ys)) (sym (drop-cons xs i x lt)) ∙ w))

pub twice_bind_step : (names : List Bind) (found next whole : Option NameError) (bs : List Bind) (i : ℕ) (b : Bind) (is : Bool)
    → i < length bs → b ≡ get_or bs i b
    → is ≡ (is_some (sort_of names b.name) || is_among (bind_names (take i bs)) b.name)
    → next ≡ noted found (fault_if is (Twice b.name.at))
    → noted found (twice_after names (bind_names (take i bs)) (bind_names (drop i bs))) ≡ whole
    → noted next (twice_after names (bind_names (take (i + 1) bs)) (bind_names (drop (i + 1) bs))) ≡ whole
twice_bind_step names found next whole bs i b is lt e t h w =
    ap (λ ys. noted next (twice_after names (bind_names ys) (bind_names (drop (i + 1) bs)))) (take_more bs i b lt ∙ ap (λ y. take i bs ++ y ∷ []) (sym e))
    ∙ ap (λ ys. noted next (twice_after names ys (bind_names (drop (i + 1) bs)))) (map-append (λ b. b.name) (take i bs) (b ∷ []))
    ∙ rw add-one (twice_step names found next whole (bind_names (take i bs)) (bind_names (drop (suc i) bs)) b.name is t h
    (ap (λ y. noted found (twice_after names (bind_names (take i bs)) (bind_names (y ∷ drop (suc i) bs)))) e
    ∙ ap (λ ys. noted found (twice_after names (bind_names (take i bs)) (bind_names ys))) (sym (drop-cons bs i b lt)) ∙ w))
