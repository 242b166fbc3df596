-- Names that go into a table one by one, and items that are held against the first of their name.
use Rattle.std.proofs.Common.{◌≡◌, ◌∙◌, sym, ap, ℕ, ◌+◌, ◌<◌, Bool, true, false, not, List, [], map, length, take, drop, get_or, Option, Some, is_some, is_none, bytes_eq}
use Rattle.std.specs.Prelude.{find}
use Rattle.bed_lang.specs.declared.word.Name.{Name}
use Rattle.bed_names.specs.Tables.{number_of, IsIndex, item_at}
use Rattle.bed_table.specs.Layout.{is_among}
use Rattle.bed_link.specs.declared.error.LinkError.{LinkError}
use Rattle.bed_link.specs.declared.error.LinkError.TheVariants.{Twice}
use Rattle.bed_link.specs.Faults.{refusal, fault_if, each_after, differs_from, first_named}
use Rattle.bed_link.specs.Linkable.{is_one_of}
use Rattle.bed_link.proofs.FaultLemmas.{after_step, after_refused}
use Rattle.bed_link.proofs.TableLemmas.{knows_index, new_or_known, first_by_table, name_is}

abbrev repeats_at : List Name → Name → List LinkError
repeats_at before x = fault_if (is_one_of before x) (Twice x)

module _ {T : Type 0} (name_of : T → Name) (items : List T) (i : ℕ) (item : T) (x : Name) (lt : i < length items)
    (is : item ≡ get_or items i item) (e : x ≡ name_of item) where
  abbrev names : List Name
  names = map name_of items

  among_before : (table : List (List ℕ × ℕ)) (bytes : List ℕ) (new : Bool) → IsIndex table (take i names) → bytes ≡ x.bytes
      → new ≡ is_none (number_of table bytes) → is_among (take i names) x.bytes ≡ not new
  among_before table bytes new index eb known =
      sym (knows_index table (take i names) index x.bytes) ∙ ap (λ b. is_some (number_of table b)) (sym eb) ∙ new_or_known (number_of table bytes) new known

  pub distinct_step : (table : List (List ℕ × ℕ)) (bytes : List ℕ) (new : Bool) (whole : List LinkError) → IsIndex table (take i names)
      → bytes ≡ x.bytes → new ≡ is_none (number_of table bytes) → new ≡ true
      → each_after repeats_at (take i names) (drop i names) ≡ whole → each_after repeats_at (take (i + 1) names) (drop (i + 1) names) ≡ whole
  distinct_step table bytes new whole index eb known fresh h =
      let at = name_is name_of items i item x lt is e in
      let none : is_among (take i names) x.bytes ≡ false = among_before table bytes new index eb known ∙ ap not fresh in
      after_step repeats_at names i x whole at.0 at.1 (ap (λ b. fault_if b (Twice x)) none) h

  pub distinct_refused : (table : List (List ℕ × ℕ)) (bytes : List ℕ) (new : Bool) (whole : List LinkError) (f : LinkError)
      → IsIndex table (take i names) → bytes ≡ x.bytes → new ≡ is_none (number_of table bytes) → new ≡ false → f ≡ Twice x
      → each_after repeats_at (take i names) (drop i names) ≡ whole → refusal whole ≡ Some f
  distinct_refused table bytes new whole f index eb known stale ef h =
      let at = name_is name_of items i item x lt is e in
      let there : is_among (take i names) x.bytes ≡ true = among_before table bytes new index eb known ∙ ap not stale in
      after_refused repeats_at names i x whole f at.0 at.1 (ap (λ b. refusal (fault_if b (Twice x))) there ∙ ap Some (sym ef)) h

  module _ (module_of : T → ℕ) (same : T → T → Bool) where
    abbrev differs_at : List T → T → List LinkError
    differs_at before t = differs_from name_of module_of same (first_named name_of module_of same before t) t

    first_is : (table : List (List ℕ × ℕ)) (bytes : List ℕ) → IsIndex table (take i names) → bytes ≡ x.bytes
        → item_at items (number_of table bytes) ≡ first_named name_of module_of same (take i items) item
    first_is table bytes index eb =
        first_by_table name_of items i table bytes index
        ∙ ap (λ b. find (λ u. bytes_eq (name_of u).bytes b) (take i items)) (eb ∙ ap (λ y. y.bytes) e)

    pub agree_step : (table : List (List ℕ × ℕ)) (bytes : List ℕ) (first : Option ℕ) (whole : List LinkError) → IsIndex table (take i names)
        → bytes ≡ x.bytes → first ≡ number_of table bytes → differs_from name_of module_of same (item_at items first) item ≡ []
        → each_after differs_at (take i items) (drop i items) ≡ whole → each_after differs_at (take (i + 1) items) (drop (i + 1) items) ≡ whole
    agree_step table bytes first whole index eb ef none h =
        let found = first_is table bytes index eb in
        after_step differs_at items i item whole lt is
        (ap (λ o. differs_from name_of module_of same o item) (sym found ∙ ap (item_at items) (sym ef)) ∙ none) h

    pub agree_refused : (table : List (List ℕ × ℕ)) (bytes : List ℕ) (first : Option ℕ) (whole : List LinkError) (f : LinkError)
        → IsIndex table (take i names) → bytes ≡ x.bytes → first ≡ number_of table bytes
        → refusal (differs_from name_of module_of same (item_at items first) item) ≡ Some f
        → each_after differs_at (take i items) (drop i items) ≡ whole → refusal whole ≡ Some f
    agree_refused table bytes first whole f index eb ef r h =
        let found = first_is table bytes index eb in
        after_refused differs_at items i item whole f lt is
        (ap (λ o. refusal (differs_from name_of module_of same o item)) (sym found ∙ ap (item_at items) (sym ef)) ∙ r) h
