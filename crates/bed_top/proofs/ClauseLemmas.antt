-- What a link that is done promises, which answer is due, and when a link is done.
use Rattle.std.proofs.Common.{◌≡◌, ◌⊎◌, inl, inr, ℕ, ◌≤◌, Bool, true, false, IsTrue, bytes_eq, List, [], ◌∷◌, ◌++◌, append_assoc, length, map, codes, Some, None, refl, sym, ◌∙◌, ap, subst, arith, if◌then◌else◌}
use Rattle.std.specs.List.{list_any}
use Rattle.std.proofs.lemmas.Slice.Eq.{bytes_eq-Decides}
use Rattle.bed_io.specs.Files.{FilesState, bytes_of, up_to}
use Rattle.bed_io.specs.Sink.{SinkState}
use Rattle.bed_lang.specs.Numbers.{word_bytes}
use Rattle.bed_lang.specs.declared.module.Module.{Module}
use Rattle.bed_table.specs.Image.{image, symbols, table_bytes}
use Rattle.bed_table.specs.Layout.{code, code_length}
use Rattle.bed_names.specs.Resolved.{resolved}
use Rattle.bed_sat.specs.Linking.{linked}
use Rattle.bed_sat.specs.Runs.{Outside}
use Rattle.bed_sat.specs.Sound.{IsOutsideOf, IsSound}
use Rattle.bed_words.specs.declared.command.Job.{Job}
use Rattle.bed_top.specs.Views.{view, End, Written, Source, source}
use Rattle.bed_top.specs.Stages.{passes, is_refusal}
use Rattle.bed_top.specs.Causes.{most_text, is_long, word_at, AreModules}
use Rattle.bed_top.specs.Files.{out_file, HasRead}
use Rattle.bed_top.specs.Returns.{module_is_built, broken_condition}
use Rattle.bed_top.specs.Work.{base, link_end}
use Rattle.bed_top.specs.Chains.{Due}
use Rattle.bed_top.specs.Writes.{Wrote}
use Rattle.bed_top.specs.Puts.{PutMemory, Put, Owed, Pays}
use Rattle.bed_top.specs.Promises.{contents, HasCode, Links, Headline, NoFault, Hold, IsDueFor, Exactly, IsLinkable, Complete, IsDue, Worked, ended, unread, unwritten, short, short_of, Ran}
use Rattle.bed_top.proofs.ChainLemmas.{due_one, due_some, same_due, some_texts, Kind, refusing, linking_to, due_kind, IsLinked, linkable_passes}
use Rattle.bed_top.proofs.RowLemmas.{given, given_memory}
use Rattle.bed_top.proofs.TextLemmas.{cut_texts, whole_texts, cut_contents}
use Rattle.bed_top.proofs.ImageLemmas.{resolved_have_the_image}
use Rattle.bed_top.proofs.ReturnLemmas.{has_outside, is_sound, module_resolved}
use Rattle.bed_top.specs.declared.status.Status.{Status}
use Rattle.bed_top.specs.declared.status.Status.TheVariants.{Done, ReadFault, WriteFault, Memory}

-- the texts that were read, where the files tell their contents: they matter only where none is too long
told_texts : (job : Job) (texts : List (List ℕ)) (old : FilesState) → IsTrue old.tells → HasRead job texts old → texts ≡ map (up_to most_text) (contents old job)
told_texts job texts old told read = read.told told ∙ cut_contents (bytes_of old) job.modules

as_long : (job : Job) (texts : List (List ℕ)) (old : FilesState) → IsTrue old.tells → HasRead job texts old → list_any is_long texts ≡ list_any is_long (contents old job)
as_long job texts old told read = ap (list_any is_long) (told_texts job texts old told read) ∙ cut_texts (contents old job)

as_held : (job : Job) (texts : List (List ℕ)) (old : FilesState) → IsTrue old.tells → HasRead job texts old → list_any is_long (contents old job) ≡ false → texts ≡ contents old job
as_held job texts old told read none = told_texts job texts old told read ∙ whole_texts (contents old job) none

-- the code stands at the end of an image
image_has_code : (ms : List Module) → HasCode (image ms base []) (linked ms base [])
image_has_code ms = (
  codes "BIM1" ++ (word_bytes base ++ (word_bytes (code_length ms) ++ (word_bytes (length (symbols ms base [])) ++ table_bytes (symbols ms base [])))),
  sym (append_assoc (codes "BIM1") (word_bytes base ++ (word_bytes (code_length ms) ++ (word_bytes (length (symbols ms base [])) ++ table_bytes (symbols ms base [])))) (code ms base [])
      ∙ ap (λ bytes. codes "BIM1" ++ bytes) (append_assoc (word_bytes base) (word_bytes (code_length ms) ++ (word_bytes (length (symbols ms base [])) ++ table_bytes (symbols ms base []))) (code ms base [])
      ∙ ap (λ bytes. word_bytes base ++ bytes) (append_assoc (word_bytes (code_length ms)) (word_bytes (length (symbols ms base [])) ++ table_bytes (symbols ms base [])) (code ms base [])
      ∙ ap (λ bytes. word_bytes (code_length ms) ++ bytes) (append_assoc (word_bytes (length (symbols ms base []))) (table_bytes (symbols ms base [])) (code ms base []))))),
)

-- what modules that can be linked are: one built module, whose names are as they were read
record IsOne (ms : List Module) : Type 0 where
  one : Module
  is : ms ≡ one ∷ []
  whole : module_is_built one ≡ true
  stays : resolved one ≡ one
  kept : broken_condition one ≡ None
  few : length one.functions ≤ 1024

one_from : (job : Job) (texts : List (List ℕ)) (ms : List Module) → 1 ≤ length texts → IsLinkable job texts ms → IsOne ms
one_from job [] [] some h = absurd (omega (arith, some))
one_from job (t ∷ ts) [] some h = absurd h.read
one_from job texts (a ∷ b ∷ bs) some h = absurd (by_test (module_is_built (resolved a)) h.built)
  where
    by_test : (c : Bool) → (if c then Some (word_at job.modules 1) else Some (word_at job.modules 0)) ≡ None → ⊥
    by_test true e = cc
    by_test false e = cc
one_from job texts (a ∷ []) some h =
    let whole : module_is_built (resolved a) ≡ true = by_test (module_is_built (resolved a)) refl h.built in
    let same : resolved a ≡ a = module_resolved a whole in
    record {
      one = a;
      is = refl;
      whole = subst (λ (x : Module). module_is_built x ≡ true) same whole;
      stays = same;
      kept = ap (λ (x : Module). broken_condition x) (sym same) ∙ h.kept;
      few = let few = h.few in omega (arith, few);
    }
  where
    by_test : (c : Bool) → module_is_built (resolved a) ≡ c → (if c then None else Some (word_at job.modules 0)) ≡ None → module_is_built (resolved a) ≡ true
    by_test true t e = t
    by_test false t e = absurd (cc)

-- what was written, where an end that is a link's was
written_image : (s : Source) (ws : List Written) (old new : FilesState) → ws ≡ (link_end (view [] []) s).writes → Wrote ws old new → IsTrue old.tells
    → new.held (out_file s.job) ≡ Some (image s.modules base [])
written_image s ws old new is w told =
    let u : Wrote (link_end (view [] []) s).writes old new = subst (λ zs. Wrote zs old new) is w in
    u.held told (out_file s.job) ∙ by_test (bytes_eq (out_file s.job) (out_file s.job)) ((bytes_eq-Decides (out_file s.job) (out_file s.job)).1 refl)
  where
    by_test : (b : Bool) → b ≡ true → (if b then Some (image s.modules base []) else old.held (out_file s.job)) ≡ Some (image s.modules base [])
    by_test true t = refl
    by_test false t = absurd (cc)

links_of : (words texts : List (List ℕ)) (s : Source) (old new : FilesState) → IsTrue old.tells → HasRead s.job texts old → IsLinked (view words texts) s
    → new.held (out_file s.job) ≡ Some (image s.modules base []) → Links words old new
links_of words texts s old new told read l written =
    let one = one_from s.job texts l.modules read.some l.linkable in
    let same : map resolved l.modules ≡ one.one ∷ [] = ap (map resolved) one.is ∙ ap (λ (m : Module). m ∷ []) one.stays in
    record {
      job = s.job;
      asked = l.asked;
      modules = l.modules;
      read = subst (λ ts. AreModules ts l.modules) (as_held s.job texts old told read (sym (as_long s.job texts old told read) ∙ l.linkable.fits)) l.linkable.read;
      scoped = l.linkable.scoped;
      written = written ∙ ap (λ (ms : List Module). Some (image ms base [])) l.is;
      as_read = resolved_have_the_image l.modules base [];
      has_code = image_has_code (map resolved l.modules);
      sound = subst (λ (ms : List Module). IsSound (linked ms base [])) (sym same) (is_sound one.one one.whole one.kept one.few);
      outside = subst (λ (ms : List Module). (X : Outside) × IsOutsideOf (linked ms base []) X) (sym same) (has_outside one.one one.whole);
    }

put_done : (lines : List (List ℕ)) (due : Status) (so sn : SinkState) (result : Status) → Put lines due so sn result → result ≡ Done → due ≡ Done
put_done lines due so sn result p done =
    elim (given lines due so sn result p) [
      | inl g ↦ sym g ∙ done
      | inr m ↦ elim m [ inl x ↦ absurd (let no : Memory ≡ Done = sym x ∙ done in cc) | inr x ↦ absurd (let no : WriteFault true ≡ Done = sym x.0 ∙ done in cc) ]
    ]

memory_done : (so sn : SinkState) (result : Status) → PutMemory so sn result → result ≡ Done → ⊥
memory_done so sn result p done =
    elim (given_memory so sn result p) [ inl x ↦ (let no : Memory ≡ Done = sym x ∙ done in cc) | inr x ↦ (let no : WriteFault true ≡ Done = sym x.0 ∙ done in cc) ]

kind_links : (words texts : List (List ℕ)) (e : End) (old new : FilesState) → Kind (view words texts) e → IsDue words texts old e → Wrote e.writes old new → e.status ≡ Done
    → IsTrue old.tells → Links words old new
kind_links words texts e old new (refusing r none) d w done told = absurd (let opposite : false ≡ true = ap is_refusal (sym done) ∙ r in cc)
kind_links words texts e old new (linking_to s l is) d w done told =
    links_of words texts s old new told (d.read s.job l.asked) l (written_image s e.writes old new (ap (λ (x : End). x.writes) is) w told)

headline_of : (words texts : List (List ℕ)) (owed : Owed) (old new : FilesState) (so sn : SinkState) (result : Status) → Worked words texts old new owed → Pays owed so sn result → Headline words old new result
headline_of words texts owed old new so sn result (ended e d w is) p done told =
    kind_links words texts e old new (due_kind (view words texts) e d.due) d w (put_done e.lines e.status so sn result (subst (λ o. Pays o so sn result) is p) done) told
headline_of words texts owed old new so sn result (unread line u same is) p done told =
    absurd (let no : ReadFault ≡ Done = put_done _ _ so sn result (subst (λ o. Pays o so sn result) is p) done in cc)
headline_of words texts owed old new so sn result (unwritten e d s rose is) p done told =
    absurd (let no : WriteFault false ≡ Done = put_done _ _ so sn result (subst (λ o. Pays o so sn result) is p) done in cc)
headline_of words texts owed old new so sn result (short same is) p done told = absurd (memory_done so sn result (subst (λ o. Pays o so sn result) is p) done)
headline_of words texts owed old new so sn result (short_of e d s is) p done told = absurd (memory_done so sn result (subst (λ o. Pays o so sn result) is p) done)

pub headline : (words : List (List ℕ)) (old new : FilesState) (so sn : SinkState) (result : Status) → Ran words old new so sn result → Headline words old new result
headline words old new so sn result r = headline_of words r.texts r.owed old new so sn result r.worked r.pays

-- what is due by the texts that were read is due by what the files hold
due_for : (words texts held : List (List ℕ)) (old : FilesState) (e f : End) → IsTrue old.tells → IsDue words texts old e → Hold words old held → Due (view words held) f → e.status ≡ f.status
due_for words texts held old e f told d holds due =
    let here : Due (view words held) e = same_due words texts held e
    (λ job asked. as_long job texts old told (d.read job asked) ∙ ap (list_any is_long) (sym (holds job asked)))
    (λ job asked none. as_held job texts old told (d.read job asked) (ap (list_any is_long) (sym (holds job asked)) ∙ none) ∙ sym (holds job asked)) d.due in
    ap (λ (x : End). x.status) (due_one (view words held) e f here due)

exact_of : (words texts : List (List ℕ)) (owed : Owed) (old new : FilesState) (so sn : SinkState) (result : Status) → Worked words texts old new owed → Pays owed so sn result
    → IsTrue old.tells → NoFault old new so sn → (e : End) → IsDueFor words old e → (result ≡ e.status) ⊎ (result ≡ Memory)
exact_of words texts owed old new so sn result (ended e d w is) p told none f (held, holds, due) =
    elim (given e.lines e.status so sn result (subst (λ o. Pays o so sn result) is p)) [
      | inl g ↦ inl (g ∙ due_for words texts held old e f told d holds due)
      | inr m ↦ elim m [ inl x ↦ inr x | inr x ↦ absurd (none.puts x.1) ]
    ]
exact_of words texts owed old new so sn result (unread line u same is) p told none f due = absurd (none.reads u.rose)
exact_of words texts owed old new so sn result (unwritten e d s rose is) p told none f due = absurd (none.writes rose)
exact_of words texts owed old new so sn result (short same is) p told none f due =
    elim (given_memory so sn result (subst (λ o. Pays o so sn result) is p)) [ inl x ↦ inr x | inr x ↦ absurd (none.puts x.1) ]
exact_of words texts owed old new so sn result (short_of e d s is) p told none f due =
    elim (given_memory so sn result (subst (λ o. Pays o so sn result) is p)) [ inl x ↦ inr x | inr x ↦ absurd (none.puts x.1) ]

pub exact : (words : List (List ℕ)) (old new : FilesState) (so sn : SinkState) (result : Status) → Ran words old new so sn result → Exactly words old new so sn result
exact words old new so sn result r = record {
  due = let t = some_texts words (λ job. contents old job) in let e = due_some (view words t.0) in (e.0, (t.0, t.1, e.1));
  only = exact_of words r.texts r.owed old new so sn result r.worked r.pays;
}

pub complete : (words : List (List ℕ)) (old new : FilesState) (so sn : SinkState) (result : Status) → Ran words old new so sn result → Complete words old new so sn result
complete words old new so sn result r told none job ms asked h =
    let t = some_texts words (λ j. contents old j) in
    let held : t.0 ≡ contents old job = t.1 job asked in
    let e : End = link_end (view words t.0) (source job (map resolved ms)) in
    (exact words old new so sn result r).only told none e
    (t.0, t.1, passes (source job (map resolved ms)) (linkable_passes (view words t.0) job ms asked (subst (λ ts. IsLinkable job ts ms) (sym held) h)) refl)
