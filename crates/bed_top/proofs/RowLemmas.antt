-- The rows that are read off a run: faults come only where their count rose, which files are left, and the answers to words.
use Rattle.std.proofs.Common.{◌≡◌, ◌≢◌, ◌⊎◌, inl, inr, ℕ, Bool, true, false, bytes_eq, List, [], ◌∷◌, ◌++◌, Option, Some, Result, Ok, Err, refl, sym, ◌∙◌, ap, subst, if◌then◌else◌}
use Rattle.std.proofs.lemmas.Slice.Eq.{bytes_eq-Decides}
use Rattle.bed_io.specs.Counts.{Rose}
use Rattle.bed_io.specs.Files.{FilesState, SameFiles, SameFilesBut}
use Rattle.bed_io.specs.Sink.{SinkState}
use Rattle.bed_lang.specs.declared.limit.Which.{Which}
use Rattle.bed_words.specs.declared.command.Command.{Command}
use Rattle.bed_words.specs.declared.command.Command.TheVariants as command
use Rattle.bed_words.specs.declared.command.CommandError.{CommandError}
use Rattle.bed_words.specs.declared.command.CommandError.TheVariants as wrong
use Rattle.bed_words.specs.declared.command.Job.{Job}
use Rattle.bed_words.specs.Usage.{IsUsage, PassesLimit}
use Rattle.bed_words.proofs.CommandLaws.{one_answer}
use Rattle.bed_top.specs.Views.{View, view, End, Refusal, refused, Written}
use Rattle.bed_top.specs.Stages.{is_refusal}
use Rattle.bed_top.specs.Causes.{Asks}
use Rattle.bed_top.specs.Files.{out_file, keeps_files, Leaves, LeavesBut}
use Rattle.bed_top.specs.Work.{wrong_word, past_limit}
use Rattle.bed_top.specs.Chains.{Due}
use Rattle.bed_top.specs.Writes.{held_after, Wrote, Stopped}
use Rattle.bed_top.specs.Puts.{PutMemory, said, unsaid, Put, all, short as cut, failed, Owed, Pays}
use Rattle.bed_top.specs.Promises.{Worked, ended, unread, unwritten, short, short_of, Ran, Faults, Yields, Words}
use Rattle.bed_top.proofs.ChainLemmas.{due_one, due_usage, usage_due, limit_due, Kind, refusing, linking_to, due_kind, no_other}
use Rattle.bed_top.specs.declared.status.Status.{Status}
use Rattle.bed_top.specs.declared.status.Status.TheVariants.{Done, No, Usage, Syntax, Names, Limit, ReadFault, WriteFault, Memory, NotBuilt}

-- what comes of a due status
pub given : (lines : List (List ℕ)) (due : Status) (old new : SinkState) (result : Status) → Put lines due old new result
    → (result ≡ due) ⊎ ((result ≡ Memory) ⊎ ((result ≡ WriteFault true) × Rose old.faults new.faults))
given lines due old new result (all is took) = inl is
given lines due old new result (cut is bytes c took) = inr (inl is)
given lines due old new result (failed is bytes which b) = inr (inr (is, b.rose))

pub given_memory : (old new : SinkState) (result : Status) → PutMemory old new result → (result ≡ Memory) ⊎ ((result ≡ WriteFault true) × Rose old.faults new.faults)
given_memory old new result (said is took) = inl is
given_memory old new result (unsaid is b) = inr (is, b.rose)

-- the files

all_same : (words : List (List ℕ)) (old new : FilesState) → SameFiles old new → LeavesBut words old new
all_same words old new same = record { others = λ job asks told other differs. same told other; refused = λ none. same }

other_name : (w : Written) (name : List ℕ) (o : Option (List ℕ)) → name ≢ w.name → (if bytes_eq name w.name then Some w.bytes else o) ≡ o
other_name w name o differs = by_test (bytes_eq name w.name) refl
  where
    by_test : (b : Bool) → bytes_eq name w.name ≡ b → (if b then Some w.bytes else o) ≡ o
    by_test true t = absurd (differs ((bytes_eq-Decides name w.name).0 t))
    by_test false t = refl

one_but : (words : List (List ℕ)) (job : Job) (old new : FilesState) → Asks words job → SameFilesBut (out_file job) old new → LeavesBut words old new
one_but words job old new asked h = record {
  others = λ other also. subst (λ (j : Job). SameFilesBut (out_file j) old new) (no_other words job other asked also) h;
  refused = λ none. absurd (none job asked);
}

wrote_none : (ws : List Written) (old new : FilesState) → ws ≡ [] → Wrote ws old new → SameFiles old new
wrote_none ws old new none w = let u : Wrote [] old new = subst (λ zs. Wrote zs old new) none w in u.held

wrote_one : (ws : List Written) (w : Written) (old new : FilesState) → ws ≡ w ∷ [] → Wrote ws old new → SameFilesBut w.name old new
wrote_one ws w old new one h =
    let u : Wrote (w ∷ []) old new = subst (λ zs. Wrote zs old new) one h in
    λ told other differs. u.held told other ∙ other_name w other (old.held other) differs

but_wrote : (v : View) (e : End) (old new : FilesState) → Kind v e → Wrote e.writes old new → LeavesBut v.words old new
but_wrote v e old new (refusing r none) w = all_same v.words old new (wrote_none e.writes old new none w)
but_wrote v e old new (linking_to s l is) w = one_but v.words s.job old new l.asked (wrote_one e.writes _ old new (ap (λ (d : End). d.writes) is) w)

none_tried : (made : List Written) (tried : Written) (left : List Written) → [] ≡ made ++ (tried ∷ left) → ⊥
none_tried [] tried left e = absurd (cc)
none_tried (m ∷ ms) tried left e = absurd (cc)

one_tried : (w : Written) (made : List Written) (tried : Written) (left : List Written) → w ∷ [] ≡ made ++ (tried ∷ left) → (made ≡ []) × (tried ≡ w)
one_tried w [] tried left e = let same : w ≡ tried = cc in (refl, sym same)
one_tried w (m ∷ ms) tried left e = let rest : [] ≡ ms ++ (tried ∷ left) = cc in absurd (none_tried ms tried left rest)

but_stopped : (v : View) (e : End) (old new : FilesState) → Kind v e → Stopped e.writes old new → LeavesBut v.words old new
but_stopped v e old new (refusing r none) s = absurd (none_tried s.made s.tried s.left (sym none ∙ s.parts))
but_stopped v e old new (linking_to l k is) s =
    let t = one_tried _ s.made s.tried s.left (sym (ap (λ (d : End). d.writes) is) ∙ s.parts) in
    one_but v.words l.job old new k.asked (λ told other differs.
    s.held told other (λ same. differs (same ∙ ap (λ (w : Written). w.name) t.1)) ∙ ap (λ ws. held_after ws old.held other) t.0)

pub worked_but : (words texts : List (List ℕ)) (owed : Owed) (old new : FilesState) → Worked words texts old new owed → LeavesBut words old new
worked_but words texts owed old new (ended e d w is) = but_wrote (view words texts) e old new (due_kind (view words texts) e d.due) w
worked_but words texts owed old new (unread line u same is) = all_same words old new same
worked_but words texts owed old new (unwritten e d s rose is) = but_stopped (view words texts) e old new (due_kind (view words texts) e d.due) s
worked_but words texts owed old new (short same is) = all_same words old new same
worked_but words texts owed old new (short_of e d s is) = but_stopped (view words texts) e old new (due_kind (view words texts) e d.due) s

-- the facts of a status that was given
record Facts (old new : FilesState) (sink_old sink_new : SinkState) (result : Status) : Type 0 where
  faults : Faults old new sink_old sink_new result
  same : keeps_files result ≡ true → SameFiles old new

apart_by : {P : Type 0} (f : Status → Bool) (s t : Status) → f s ≡ false → f t ≡ true → s ≡ t → P
apart_by f s t p q e = absurd (let opposite : false ≡ true = sym p ∙ ap f e ∙ q in cc)

abbrev is_fault : Status → Bool
is_fault ReadFault = true
is_fault (WriteFault sink) = true
is_fault _ = false

of_memory : (old new : FilesState) (so sn : SinkState) (result : Status) → result ≡ Memory → Facts old new so sn result
of_memory old new so sn result is = record {
  faults = record {
    read = λ e. apart_by is_fault Memory ReadFault refl refl (sym is ∙ e);
    write = λ e. apart_by is_fault Memory (WriteFault false) refl refl (sym is ∙ e);
    sink = λ e. apart_by is_fault Memory (WriteFault true) refl refl (sym is ∙ e);
  };
  same = λ k. absurd (let opposite : false ≡ true = ap keeps_files (sym is) ∙ k in cc);
}

of_sink : (old new : FilesState) (so sn : SinkState) (result : Status) → result ≡ WriteFault true → Rose so.faults sn.faults → Facts old new so sn result
of_sink old new so sn result is rose = record {
  faults = record {
    read = λ e. absurd (let opposite : WriteFault true ≡ ReadFault = sym is ∙ e in cc);
    write = λ e. absurd (let opposite : WriteFault true ≡ WriteFault false = sym is ∙ e in cc);
    sink = λ e. rose;
  };
  same = λ k. absurd (let opposite : false ≡ true = ap keeps_files (sym is) ∙ k in cc);
}

of_unread : (old new : FilesState) (so sn : SinkState) (result : Status) → Rose old.read_faults new.read_faults → SameFiles old new → result ≡ ReadFault → Facts old new so sn result
of_unread old new so sn result rose same is = record {
  faults = record {
    read = λ e. rose;
    write = λ e. absurd (let opposite : ReadFault ≡ WriteFault false = sym is ∙ e in cc);
    sink = λ e. absurd (let opposite : ReadFault ≡ WriteFault true = sym is ∙ e in cc);
  };
  same = λ k. same;
}

of_unwritten : (old new : FilesState) (so sn : SinkState) (result : Status) → Rose old.write_faults new.write_faults → result ≡ WriteFault false → Facts old new so sn result
of_unwritten old new so sn result rose is = record {
  faults = record {
    read = λ e. absurd (let opposite : WriteFault false ≡ ReadFault = sym is ∙ e in cc);
    write = λ e. rose;
    sink = λ e. absurd (let opposite : WriteFault false ≡ WriteFault true = sym is ∙ e in cc);
  };
  same = λ k. absurd (let opposite : false ≡ true = ap keeps_files (sym is) ∙ k in cc);
}

refusal_no_fault : (s : Status) → is_refusal s ≡ true → is_fault s ≡ false
refusal_no_fault Done h = refl
refusal_no_fault ReadFault h = absurd (cc)
refusal_no_fault (WriteFault sink) h = absurd (cc)
refusal_no_fault Memory h = refl
refusal_no_fault (No condition rejected) h = refl
refusal_no_fault (Usage word) h = refl
refusal_no_fault (Syntax file line column kind) h = refl
refusal_no_fault (Names file line column kind) h = refl
refusal_no_fault (Limit which) h = refl
refusal_no_fault (NotBuilt what) h = refl

kind_no_fault : (v : View) (e : End) → Kind v e → is_fault e.status ≡ false
kind_no_fault v e (refusing r none) = refusal_no_fault e.status r
kind_no_fault v e (linking_to s l is) = ap (λ (d : End). is_fault d.status) is

kind_same : (v : View) (e : End) (old new : FilesState) → Kind v e → Wrote e.writes old new → keeps_files e.status ≡ true → SameFiles old new
kind_same v e old new (refusing r none) w k = wrote_none e.writes old new none w
kind_same v e old new (linking_to s l is) w k = absurd (let opposite : false ≡ true = ap (λ (d : End). keeps_files d.status) (sym is) ∙ k in cc)

of_end : (v : View) (e : End) (old new : FilesState) (so sn : SinkState) (result : Status) → Kind v e → Wrote e.writes old new → result ≡ e.status → Facts old new so sn result
of_end v e old new so sn result k w is = record {
  faults = record {
    read = λ r. apart_by is_fault e.status ReadFault (kind_no_fault v e k) refl (sym is ∙ r);
    write = λ r. apart_by is_fault e.status (WriteFault false) (kind_no_fault v e k) refl (sym is ∙ r);
    sink = λ r. apart_by is_fault e.status (WriteFault true) (kind_no_fault v e k) refl (sym is ∙ r);
  };
  same = λ r. kind_same v e old new k w (ap keeps_files (sym is) ∙ r);
}

facts : (words texts : List (List ℕ)) (owed : Owed) (old new : FilesState) (so sn : SinkState) (result : Status) → Worked words texts old new owed → Pays owed so sn result → Facts old new so sn result
facts words texts owed old new so sn result (ended e d w is) p =
    elim (given _ _ so sn result (subst (λ o. Pays o so sn result) is p)) [ inl g ↦ of_end (view words texts) e old new so sn result (due_kind (view words texts) e d.due) w g | inr m ↦ elim m [ inl x ↦ of_memory old new so sn result x | inr x ↦ of_sink old new so sn result x.0 x.1 ] ]
facts words texts owed old new so sn result (unread line u same is) p =
    elim (given _ _ so sn result (subst (λ o. Pays o so sn result) is p)) [ inl g ↦ of_unread old new so sn result u.rose same g | inr m ↦ elim m [ inl x ↦ of_memory old new so sn result x | inr x ↦ of_sink old new so sn result x.0 x.1 ] ]
facts words texts owed old new so sn result (unwritten e d s rose is) p =
    elim (given _ _ so sn result (subst (λ o. Pays o so sn result) is p)) [ inl g ↦ of_unwritten old new so sn result rose g | inr m ↦ elim m [ inl x ↦ of_memory old new so sn result x | inr x ↦ of_sink old new so sn result x.0 x.1 ] ]
facts words texts owed old new so sn result (short same is) p =
    elim (given_memory so sn result (subst (λ o. Pays o so sn result) is p)) [ inl x ↦ of_memory old new so sn result x | inr x ↦ of_sink old new so sn result x.0 x.1 ]
facts words texts owed old new so sn result (short_of e d s is) p =
    elim (given_memory so sn result (subst (λ o. Pays o so sn result) is p)) [ inl x ↦ of_memory old new so sn result x | inr x ↦ of_sink old new so sn result x.0 x.1 ]

module _ (words : List (List ℕ)) (old new : FilesState) (so sn : SinkState) (result : Status) (ran : Ran words old new so sn result) where
  pub faults : Faults old new so sn result
  faults = (facts words ran.texts ran.owed old new so sn result ran.worked ran.pays).faults

  pub leaves : Leaves words old new result
  leaves = record {
    same = (facts words ran.texts ran.owed old new so sn result ran.worked ran.pays).same;
    but = worked_but words ran.texts ran.owed old new ran.worked;
  }

-- the words

yields : (lines : List (List ℕ)) (s t : Status) (so sn : SinkState) (result : Status) → s ≡ t → Put lines s so sn result → Yields result t
yields lines s t so sn result is p = elim (given lines s so sn result p) [ inl g ↦ inl (g ∙ is) | inr m ↦ elim m [ inl x ↦ inr (inl x) | inr x ↦ inr (inr x.0) ] ]

yields_memory : (t : Status) (so sn : SinkState) (result : Status) → PutMemory so sn result → Yields result t
yields_memory t so sn result p = elim (given_memory so sn result p) [ inl x ↦ inr (inl x) | inr x ↦ inr (inr x.0) ]

-- a refusal that words have whatever the files hold
by_words : (words texts : List (List ℕ)) (owed : Owed) (old new : FilesState) (so sn : SinkState) (result : Status) (x : Refusal) → Due (view words texts) (refused x)
    → ((job : Job) → Asks words job → ⊥) → Worked words texts old new owed → Pays owed so sn result → Yields result x.status
by_words words texts owed old new so sn result x due none (ended e d w is) p =
    yields e.lines e.status x.status so sn result (ap (λ (f : End). f.status) (due_one (view words texts) e (refused x) d.due due)) (subst (λ o. Pays o so sn result) is p)
by_words words texts owed old new so sn result x due none (unread line u same is) p = absurd (none u.job u.asked)
by_words words texts owed old new so sn result x due none (unwritten e d s rose is) p =
    absurd (none_tried s.made s.tried s.left (sym (ap (λ (f : End). f.writes) (due_one (view words texts) e (refused x) d.due due)) ∙ s.parts))
by_words words texts owed old new so sn result x due none (short same is) p = yields_memory x.status so sn result (subst (λ o. Pays o so sn result) is p)
by_words words texts owed old new so sn result x due none (short_of e d s is) p = yields_memory x.status so sn result (subst (λ o. Pays o so sn result) is p)

usage_only : (words texts : List (List ℕ)) (owed : Owed) (old new : FilesState) (so sn : SinkState) (result : Status) (word : ℕ) → result ≡ Usage word
    → Worked words texts old new owed → Pays owed so sn result → IsUsage words word
usage_only words texts owed old new so sn result word u (ended e d w is) p =
    elim (given e.lines e.status so sn result (subst (λ o. Pays o so sn result) is p)) [
      | inl g ↦ due_usage (view words texts) e word d.due (sym g ∙ u)
      | inr m ↦ elim m [ inl x ↦ absurd (let no : Memory ≡ Usage word = sym x ∙ u in cc) | inr x ↦ absurd (let no : WriteFault true ≡ Usage word = sym x.0 ∙ u in cc) ]
    ]
usage_only words texts owed old new so sn result word u (unread line k same is) p =
    elim (given _ _ so sn result (subst (λ o. Pays o so sn result) is p)) [
      | inl g ↦ absurd (let no : ReadFault ≡ Usage word = sym g ∙ u in cc)
      | inr m ↦ elim m [ inl x ↦ absurd (let no : Memory ≡ Usage word = sym x ∙ u in cc) | inr x ↦ absurd (let no : WriteFault true ≡ Usage word = sym x.0 ∙ u in cc) ]
    ]
usage_only words texts owed old new so sn result word u (unwritten e d s rose is) p =
    elim (given _ _ so sn result (subst (λ o. Pays o so sn result) is p)) [
      | inl g ↦ absurd (let no : WriteFault false ≡ Usage word = sym g ∙ u in cc)
      | inr m ↦ elim m [ inl x ↦ absurd (let no : Memory ≡ Usage word = sym x ∙ u in cc) | inr x ↦ absurd (let no : WriteFault true ≡ Usage word = sym x.0 ∙ u in cc) ]
    ]
usage_only words texts owed old new so sn result word u (short same is) p =
    elim (given_memory so sn result (subst (λ o. Pays o so sn result) is p)) [ inl x ↦ absurd (let no : Memory ≡ Usage word = sym x ∙ u in cc) | inr x ↦ absurd (let no : WriteFault true ≡ Usage word = sym x.0 ∙ u in cc) ]
usage_only words texts owed old new so sn result word u (short_of e d s is) p =
    elim (given_memory so sn result (subst (λ o. Pays o so sn result) is p)) [ inl x ↦ absurd (let no : Memory ≡ Usage word = sym x ∙ u in cc) | inr x ↦ absurd (let no : WriteFault true ≡ Usage word = sym x.0 ∙ u in cc) ]

no_asks : (words : List (List ℕ)) (w : Which) → PassesLimit words w → (job : Job) → Asks words job → ⊥
no_asks words w p job asks =
    let e : ◌≡◌ {A = Result Command CommandError} (Err (wrong.Limit w)) (Ok (command.Link job)) =
    one_answer words (Err (wrong.Limit w)) (Ok (command.Link job)) p (asks.stands, asks.within) in absurd (cc)

pub words_answer : (words : List (List ℕ)) (old new : FilesState) (so sn : SinkState) (result : Status) → Ran words old new so sn result → Words words result
words_answer words old new so sn result ran = record {
  usage_only = λ word is. usage_only words ran.texts ran.owed old new so sn result word is ran.worked ran.pays;
  usage = λ word u. by_words words ran.texts ran.owed old new so sn result (wrong_word word) (usage_due (view words ran.texts) word u)
      (λ job asks. u.none (command.Link job) asks.stands) ran.worked ran.pays;
  limit = λ w p. by_words words ran.texts ran.owed old new so sn result (past_limit w) (limit_due (view words ran.texts) w p) (no_asks words w p) ran.worked ran.pays;
}
