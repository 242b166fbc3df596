-- From the parts to the whole run.
use Rattle.std.proofs.Common.{◌≡◌, ℕ, ◌≤◌, false, IsTrue, IsSome, All, List, [], ◌∷◌, ◌++◌, length, Result, Ok, Err, IfOk, Vec, vec_len, inl, inr, refl, sym, ◌∙◌, ap, subst, IsErrAnd, arith}
use Rattle.std.proofs.lemmas.List.{length-map}
use Rattle.std.specs.declared.alloc.Global.{Global}
use Rattle.bed_io.specs.Files.{FilesState, GoesOn, SameFiles}
use Rattle.bed_io.specs.declared.files.FileRefusal.{FileRefusal}
use Rattle.bed_io.specs.declared.files.FileRefusal.TheVariants as refusal
use Rattle.bed_words.specs.declared.command.Job.{Job}
use Rattle.bed_top.specs.Views.{View, view, End, Refusal, refused, Written, Source}
use Rattle.bed_top.specs.Causes.{word_at, Asks, function_count}
use Rattle.bed_top.specs.Files.{HasRead, SameCounts, KeepsCalm}
use Rattle.bed_top.specs.Lines.{text_of, read_fault_line, linked_line}
use Rattle.bed_top.specs.Stages.{Ends, refuses, passes}
use Rattle.bed_top.specs.Gives.{texts_of, Given, Gives, one_line, end_of, written_of, Concluded, Judged, as_one}
use Rattle.bed_top.specs.Work.{image_write, done_with, link_end}
use Rattle.bed_top.specs.Chains.{asking, linking}
use Rattle.bed_top.specs.Writes.{Wrote, Stopped, WriteOutcome, Writes}
use Rattle.bed_top.specs.Puts.{Owed}
use Rattle.bed_top.specs.Outcomes.{AreCut, ReadsTexts, IsLine, line_is, no_line, Acts, acted, failed_at, stopped_at, GivesUp, IsStopped}
use Rattle.bed_top.specs.Promises.{IsDue, Unread, Worked, ended, unread, unwritten, short, short_of}
use Rattle.bed_top.proofs.ChainLemmas.{asking_lawful, asks_for, no_other}
use Rattle.bed_top.proofs.FileLemmas.{after_same, goes_through}
use Rattle.bed_top.proofs.StageLemmas.{apart, ends_after, ends_stopped}
use Rattle.bed_top.specs.declared.plan.Fault.{Fault}
use Rattle.bed_top.specs.declared.plan.Fault.TheVariants as fault
use Rattle.bed_top.specs.declared.line.Line.{Line}
use Rattle.bed_table.specs.Layout.{code_length}
use Rattle.bed_top.specs.declared.plan.Plan.{Plan}
use Rattle.bed_top.specs.declared.plan.Write.{Write}
use Rattle.bed_top.specs.declared.plan.Stop.{Stop}
use Rattle.bed_top.specs.declared.plan.Stop.TheVariants.{Refused, Memory}
use Rattle.bed_top.specs.declared.status.Status.{Status}
use Rattle.bed_top.specs.declared.status.Status.TheVariants.{ReadFault, WriteFault}
use Rattle.bed_lang.specs.declared.module.Module.{Module}

-- the judgement of a link: its stages refuse, or let through what its plan is made of

refused_end : {X : Type 0} (job : Job) (see : X → Source) (v : View) (e : Stop) (r : Result Plan Stop)
    → IsErrAnd r (λ x. x ≡ e) → Given linking see v job (Err e) → Concluded (Ends linking job link_end v) r
refused_end job see v e (Ok p) is h = absurd is
refused_end job see v (Refused s line) (Err x) is h = subst (λ y. Concluded (Ends linking job link_end v) (Err y)) (sym is) (refuses _ h refl)
refused_end job see v Memory (Err x) is h = subst (λ y. Concluded (Ends linking job link_end v) (Err y)) (sym is) tt

pub judged_refused : {X : Type 0} {job : Job} {see : X → Source} {v : View} {e : Stop} (r : Result Plan Stop)
    → IsErrAnd r (λ x. x ≡ e) → Gives linking see v job (Err e) → Judged job v r
judged_refused {job = job} {see = see} {v = v} {e = e} r is h = record { is = refused_end job see v e r is h.is }

pub judged_passed : {X : Type 0} {job : Job} {see : X → Source} {v : View} {x : X} (p : Plan)
    → Gives linking see v job (Ok x) → end_of p ≡ link_end v (see x) → Judged job v (Ok p)
judged_passed p h is = record { is = passes _ h.is is }

-- the writes

failed_act : (T : Type 0) (e : End) (old new : FilesState) (f : Fault) (owed : Owed) → WriteOutcome {T = T} e.writes old new (Err f) → GivesUp (WriteFault false) f owed → Acts e old new owed
failed_act T e old new (fault.Failed line) owed o h = failed_at o.0 o.2 (subst (λ l. IsLine owed (WriteFault false) l) o.1 h)
failed_act T e old new fault.Memory owed o h = stopped_at o h

pub act_failed : {T : Type 0} (e : End) (ws : List Written) (old new : FilesState) (r : Result T Fault) (f : Fault) (owed : Owed) → ws ≡ e.writes → r ≡ Err f
    → Writes ws old new r → GivesUp (WriteFault false) f owed → Acts e old new owed
act_failed {T} e ws old new r f owed same err w h =
    failed_act T e old new f owed (subst (λ x. WriteOutcome {T = T} e.writes old new x) err (subst (λ zs. WriteOutcome zs old new r) same w.outcome)) h

wrote_from : (ws : List Written) (old mid new : FilesState) → SameFiles old mid → mid.tells ≡ old.tells → Wrote ws mid new → Wrote ws old new
wrote_from ws old mid new same tells w = record { held = λ t name. w.held (tells ∙ t) name ∙ after_same ws mid.held old.held (same t) name }

stopped_from : (ws : List Written) (old mid new : FilesState) → SameFiles old mid → mid.tells ≡ old.tells → Stopped ws mid new → Stopped ws old new
stopped_from ws old mid new same tells s = record {
  made = s.made;
  tried = s.tried;
  left = s.left;
  parts = s.parts;
  held = λ t name differs. s.held (tells ∙ t) name differs ∙ after_same s.made mid.held old.held (same t) name;
}

-- from what the writes come to

acts_worked : (words texts : List (List ℕ)) (e : End) (old mid new : FilesState) (owed : Owed) → IsDue words texts old e → SameFiles old mid → GoesOn old mid → Acts e mid new owed → Worked words texts old new owed
unfolding stopped_from
acts_worked words texts e old mid new owed due same g (acted w is) = ended e due (wrote_from e.writes old mid new same g.tells w) is
acts_worked words texts e old mid new owed due same g (failed_at s rose (line_is is)) =
    unwritten e due (stopped_from e.writes old mid new same g.tells s) (let before : old.write_faults ≤ mid.write_faults = g.writes in omega arith) is
acts_worked words texts e old mid new owed due same g (failed_at s rose (no_line is)) = short_of e due (stopped_from e.writes old mid new same g.tells s) is
acts_worked words texts e old mid new owed due same g (stopped_at s is) = short_of e due (stopped_from e.writes old mid new same g.tells s) is

-- what was judged of the texts of a link is due by the words
due_of : (words texts : List (List ℕ)) (job : Job) (old : FilesState) (e : End) → Asks words job → HasRead job texts old → Ends linking job link_end (view words texts) e
    → IsDue words texts old e
due_of words texts job old e asked read h = record {
  read = λ other also. subst (λ j. HasRead j texts old) (no_other words job other asked also) read;
  due = ends_after asking linking tt job link_end (view words texts) e (asks_for words texts job asked) h;
}

-- all texts were read into no others
pub read_whole : {T : Type 0} (job : Job) (names : List (List ℕ)) (before after : List (Vec ℕ Global)) (old mid : FilesState) (r : Result T FileRefusal) → before ≡ []
    → names ≡ job.modules
    → (more : List (List ℕ)) × (texts_of after ≡ texts_of before ++ more) × AreCut more × ReadsTexts old mid names more r
    → AreCut (texts_of after) × ReadsTexts old mid job.modules (texts_of after) r
read_whole job names before after old mid r none named (more, told, cut, h) =
    let same : texts_of after ≡ more = told ∙ ap (λ bs. texts_of bs ++ more) none in (
      subst AreCut (sym same) cut,
      subst (λ ns. ReadsTexts old mid ns (texts_of after) r) named (subst (λ ts. ReadsTexts old mid names ts r) (sym same) h),
    )

has_read : {T : Type 0} (job : Job) (texts : List (List ℕ)) (old mid : FilesState) (x : T) → 1 ≤ length job.modules → ReadsTexts {T = T} old mid job.modules texts (Ok x)
    → HasRead job texts old
has_read job texts old mid x some h = let each : length texts ≡ length job.modules = h.each in record { each = each; some = omega (arith, some, each); told = h.told }

pub as_many_texts : {T : Type 0} (job : Job) (buffers : List (Vec ℕ Global)) (old mid : FilesState) (x : T) → ReadsTexts {T = T} old mid job.modules (texts_of buffers) (Ok x)
    → length buffers ≡ length job.modules
as_many_texts job buffers old mid x h = sym (length-map buffers (λ (b : Vec ℕ Global). b.items)) ∙ h.each

pub worked_plan : {T : Type 0} (job : Job) (words texts : List (List ℕ)) (p : Plan) (old mid new : FilesState) (x : T) (owed : Owed) → Asks words job → 1 ≤ length job.modules
    → ReadsTexts {T = T} old mid job.modules texts (Ok x) → Judged job (view words texts) (Ok p) → Acts (end_of p) mid new owed → Worked words texts old new owed
worked_plan job words texts p old mid new x owed asked some r j a =
    acts_worked words texts (end_of p) old mid new owed (due_of words texts job old (end_of p) asked (has_read job texts old mid x some r) j.is) r.same r.goes_on a

refusal_worked : (words texts : List (List ℕ)) (old mid : FilesState) (s : Status) (line : Line) (owed : Owed) → IsDue words texts old (refused (one_line s line)) → SameFiles old mid → IsLine owed s (text_of line)
    → Worked words texts old mid owed
refusal_worked words texts old mid s line owed due same (line_is is) = ended (refused (one_line s line)) due (record { held = same }) is
refusal_worked words texts old mid s line owed due same (no_line is) = short same is

stopped_worked : (job : Job) (words texts : List (List ℕ)) (old mid : FilesState) (e : Stop) (owed : Owed) → Asks words job → HasRead job texts old → SameFiles old mid
    → Concluded (Ends linking job link_end (view words texts)) (Err e) → IsStopped e owed → Worked words texts old mid owed
stopped_worked job words texts old mid (Refused s line) owed asked read same d h =
    refusal_worked words texts old mid s line owed (due_of words texts job old (refused (one_line s line)) asked read d) same h
stopped_worked job words texts old mid Memory owed asked read same d h = short same h

pub worked_refusal : {T : Type 0} (job : Job) (words texts : List (List ℕ)) (e : Stop) (old mid : FilesState) (x : T) (owed : Owed) → Asks words job → 1 ≤ length job.modules
    → ReadsTexts {T = T} old mid job.modules texts (Ok x) → Judged job (view words texts) (Err e) → IsStopped e owed → Worked words texts old mid owed
worked_refusal job words texts e old mid x owed asked some r j l =
    stopped_worked job words texts old mid e owed asked (has_read job texts old mid x some r) r.same j.is l

unread_line : (words texts : List (List ℕ)) (old mid : FilesState) (line : List ℕ) (owed : Owed) → Unread words texts old mid line → SameFiles old mid → IsLine owed ReadFault line
    → Worked words texts old mid owed
unread_line words texts old mid line owed u same (line_is is) = unread line u same is
unread_line words texts old mid line owed u same (no_line is) = short same is

pub worked_unread : {T : Type 0} (job : Job) (words texts : List (List ℕ)) (called : List ℕ) (old mid : FilesState) (owed : Owed) → Asks words job
    → ReadsTexts {T = T} old mid job.modules texts (Err refusal.Failed) → called ≡ word_at job.modules (length texts) → IsLine owed ReadFault (read_fault_line called)
    → Worked words texts old mid owed
worked_unread job words texts called old mid owed asked r named l =
    unread_line words texts old mid (read_fault_line called) owed (record {
      job = job;
      asked = asked;
      fewer = r.fewer;
      is = ap (λ (n : List ℕ). read_fault_line n) named;
      rose = r.failed refl;
      absent = r.absent refl;
    }) r.same l

-- The counts of the files.

pub goes_after : {T : Type 0} (names texts : List (List ℕ)) (old mid new : FilesState) (r : Result T FileRefusal) → ReadsTexts old mid names texts r → GoesOn mid new → GoesOn old new
goes_after names texts old mid new r h g = goes_through old mid new h.goes_on g

pub calm_after : {T : Type 0} (names texts : List (List ℕ)) (old mid new : FilesState) (r : Result T FileRefusal) → ReadsTexts old mid names texts r
    → new.read_faults ≡ mid.read_faults → (IsTrue mid.calm → new.write_faults ≡ mid.write_faults)
    → IsTrue old.tells → IsTrue old.calm → All (λ file. IsSome (old.held file)) names → SameCounts old new
calm_after names texts old mid new r h reads writes told calm all = record {
  reads = reads ∙ h.stays_calm told calm all;
  writes = writes (h.goes_on.calm ∙ calm) ∙ h.writes_stay;
}

pub calm_then : {T : Type 0} (names texts : List (List ℕ)) (old mid : FilesState) (r : Result T FileRefusal) → ReadsTexts old mid names texts r
    → IsTrue old.tells → IsTrue old.calm → All (λ file. IsSome (old.held file)) names → SameCounts old mid
calm_then names texts old mid r h told calm all = record { reads = h.stays_calm told calm all; writes = h.writes_stay }

-- The words.

-- words that are refused ask for no link
refused_asks : {X : Type 0} (words : List (List ℕ)) (see : X → Job) (s : Status) (line : Line) → ((texts : List (List ℕ)) → Gives {X = X} asking see (view words texts) tt (Err (Refused s line)))
    → (job : Job) → Asks words job → ⊥
refused_asks words see s line h job asked =
    let g = h [] in stage_apart words (one_line s line) job g.is (asks_for words [] job asked)
  where
    stage_apart : (words : List (List ℕ)) (x : Refusal) (job : Job) → asking (view words []) tt (inl x) → asking (view words []) tt (inr job) → ⊥
    stage_apart words x job a b = apart x job (asking_lawful.one (view words []) tt (inl x) (inr job) a b)

pub nothing_worked : {X : Type 0} (words : List (List ℕ)) (see : X → Job) (e : Stop) (files : FilesState) (owed : Owed)
    → ((texts : List (List ℕ)) → Gives {X = X} asking see (view words texts) tt (Err e)) → IsStopped e owed → Worked words [] files files owed
nothing_worked words see (Refused s line) files owed h l =
    let g = h [] in
    refusal_worked words [] files files s line owed (record {
      read = λ job asked. absurd (refused_asks words see s line h job asked);
      due = ends_stopped asking linking tt (one_line s line) link_end (view words []) g.is;
    }) (λ told name. refl) l
nothing_worked words see Memory files owed h l = short (λ told name. refl) l

pub nothing_goes : (files : FilesState) → GoesOn files files
nothing_goes files = record { tells = refl; calm = refl; reads = omega arith; writes = omega arith }

pub nothing_calm : (words : List (List ℕ)) (files : FilesState) → KeepsCalm words files files
nothing_calm words files = record { link = λ calm job asked all. record { reads = refl; writes = refl }; untouched = λ none. refl }

pub link_calm : (words : List (List ℕ)) (job : Job) (old new : FilesState) → Asks words job → (IsTrue old.calm → IsTrue old.tells)
    → (IsTrue old.tells → IsTrue old.calm → All (λ file. IsSome (old.held file)) job.modules → SameCounts old new) → KeepsCalm words old new
link_calm words job old new asked tells h = record {
  link = λ calm other also all. h (tells calm) calm (subst (λ (j : Job). All (λ file. IsSome (old.held file)) j.modules) (no_other words other job also asked) all);
  untouched = λ none. absurd (none job asked);
}

pub texts_counted : (buffers : Vec (Vec ℕ Global) Global) → length (texts_of buffers.items) ≡ vec_len buffers
texts_counted buffers = length-map buffers.items (λ (b : Vec ℕ Global). b.items) ∙ sym buffers.ok.0

-- the end of a plan of one module
pub plan_end : {E : Type 0} (job : Job) (m : Module) (functions bytes : ℕ) (w : Write) (r : Result Plan E) → functions ≡ length m.functions → bytes ≡ code_length (m ∷ [])
    → written_of w ≡ image_write job (m ∷ []) → IfOk r (λ p. end_of p ≡ done_with (written_of w) (linked_line 1 functions bytes))
    → IfOk r (λ p. (v : View) → end_of p ≡ link_end v (as_one job m))
plan_end job m functions bytes w (Err e) fs bs ws h = tt
plan_end job m functions bytes w (Ok p) fs bs ws h = λ v.
    let all : functions ≡ function_count (m ∷ []) = omega (arith, fs) in
    h ∙ ap (λ (x : Written). done_with x (linked_line 1 functions bytes)) ws
    ∙ ap (λ (n : ℕ). done_with (image_write job (m ∷ [])) (linked_line 1 n bytes)) all
    ∙ ap (λ (b : ℕ). done_with (image_write job (m ∷ [])) (linked_line 1 (function_count (m ∷ [])) b)) bs
