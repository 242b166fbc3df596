-- Writes, one more at the front.
use Rattle.std.proofs.Common.{◌≡◌, ◌≢◌, ℕ, ◌≤◌, Bool, true, false, IsTrue, bytes_eq, List, [], ◌∷◌, Option, Some, Result, Ok, Err, OnOk, IsErrOf, refl, sym, ◌∙◌, ap, subst, arith, cond}
use Rattle.std.proofs.lemmas.Slice.Eq.{bytes_eq-Decides}
use Rattle.bed_io.specs.Counts.{Rose}
use Rattle.bed_io.specs.Files.{FilesState, GoesOn, Puts}
use Rattle.bed_io.specs.declared.files.FileRefusal.{FileRefusal}
use Rattle.bed_io.specs.declared.files.FileRefusal.TheVariants as refusal
use Rattle.bed_top.specs.Views.{Written}
use Rattle.bed_top.specs.Lines.{write_fault_line}
use Rattle.bed_top.specs.Outcomes.{IsFault}
use Rattle.bed_top.specs.Writes.{after, held_after, Wrote, Stopped, WriteOutcome, Writes}
use Rattle.bed_top.specs.declared.plan.Fault.{Fault}
use Rattle.bed_top.specs.declared.plan.Fault.TheVariants.{Failed, Memory}

-- the contents after writes depend on the contents before alone
pub after_same : (ws : List Written) (f g : List ℕ → Option (List ℕ)) → ((name : List ℕ) → f name ≡ g name) → (name : List ℕ) → held_after ws f name ≡ held_after ws g name
after_same [] f g h name = h name
after_same (w ∷ ws) f g h name = after_same ws (after f w) (after g w) (λ n. ap (λ o. cond (bytes_eq n w.name) (Some w.bytes) o) (h n)) name

pub goes_through : (a b c : FilesState) → GoesOn a b → GoesOn b c → GoesOn a c
goes_through a b c p q = record { tells = q.tells ∙ p.tells; calm = q.calm ∙ p.calm; reads = omega arith; writes = omega arith }

one_written : (old mid : FilesState) (w : Written) (name : List ℕ) (b : Bool) → (b ≡ true → name ≡ w.name) → (name ≡ w.name → b ≡ true) → mid.held w.name ≡ Some w.bytes
    → (name ≢ w.name → mid.held name ≡ old.held name) → mid.held name ≡ cond b (Some w.bytes) (old.held name)
one_written old mid w name true fwd back at other = ap mid.held (fwd refl) ∙ at
one_written old mid w name false fwd back at other = other (λ e. let opposite : false ≡ true = back e in cc)

-- a write that was made
pub written : {T : Type 0} (old mid : FilesState) (w : Written) (called wanted : List ℕ) (result : Result T FileRefusal) (x : T) → called ≡ w.name → wanted ≡ w.bytes → result ≡ Ok x
    → Puts old mid called wanted result → IsTrue old.tells → (name : List ℕ) → mid.held name ≡ after old.held w name
written old mid w called wanted result x same_name same_bytes ok p tells name =
    let bytes : OnOk result (IsTrue old.tells → mid.held called ≡ Some wanted) = p.bytes in
    let at : mid.held called ≡ Some wanted = (subst (λ r. OnOk r (IsTrue old.tells → mid.held called ≡ Some wanted)) ok bytes) tells in
    let d = bytes_eq-Decides name w.name in
    one_written old mid w name (bytes_eq name w.name) d.0 d.1 (ap mid.held (sym same_name) ∙ at ∙ ap Some same_bytes)
    (λ differs. p.others tells name (λ e. differs (e ∙ same_name)))

wrote_more : (old mid new : FilesState) (w : Written) (ws : List Written) → (IsTrue old.tells → (name : List ℕ) → mid.held name ≡ after old.held w name) → mid.tells ≡ old.tells
    → Wrote ws mid new → Wrote (w ∷ ws) old new
wrote_more old mid new w ws at tells h = record { held = λ t name. h.held (tells ∙ t) name ∙ after_same ws mid.held (after old.held w) (at t) name }

stopped_more : (old mid new : FilesState) (w : Written) (ws : List Written) → (IsTrue old.tells → (name : List ℕ) → mid.held name ≡ after old.held w name) → mid.tells ≡ old.tells
    → Stopped ws mid new → Stopped (w ∷ ws) old new
stopped_more old mid new w ws at tells s = record {
  made = w ∷ s.made;
  tried = s.tried;
  left = s.left;
  parts = ap (λ zs. w ∷ zs) s.parts;
  held = λ t name differs. s.held (tells ∙ t) name differs ∙ after_same s.made mid.held (after old.held w) (at t) name;
}

outcome_more : {T : Type 0} (old mid new : FilesState) (w : Written) (ws : List Written) (r : Result T Fault) → (IsTrue old.tells → (name : List ℕ) → mid.held name ≡ after old.held w name)
    → GoesOn old mid → WriteOutcome ws mid new r → WriteOutcome (w ∷ ws) old new r
unfolding stopped_more
outcome_more old mid new w ws (Ok x) at g h = wrote_more old mid new w ws at g.tells h
outcome_more old mid new w ws (Err (Failed line)) at g (s, is, rose) =
    (stopped_more old mid new w ws at g.tells s, is, let before : old.write_faults ≤ mid.write_faults = g.writes in omega arith)
outcome_more old mid new w ws (Err Memory) at g h = stopped_more old mid new w ws at g.tells h

pub writes_more : {T U : Type 0} (old mid new : FilesState) (w : Written) (ws rest : List Written) (called wanted : List ℕ) (result : Result T FileRefusal) (x : T) (r : Result U Fault)
    → ws ≡ w ∷ rest → called ≡ w.name → wanted ≡ w.bytes → result ≡ Ok x → Puts old mid called wanted result → Writes rest mid new r → Writes ws old new r
writes_more old mid new w ws rest called wanted result x r parts same_name same_bytes ok p h = record {
  outcome = subst (λ zs. WriteOutcome zs old new r) (sym parts) (outcome_more old mid new w rest r (written old mid w called wanted result x same_name same_bytes ok p) p.goes_on h.outcome);
  goes_on = goes_through old mid new p.goes_on h.goes_on;
  reads_stay = h.reads_stay ∙ p.reads_stay;
  stays_calm = λ calm. h.stays_calm (p.goes_on.calm ∙ calm) ∙ p.stays_calm calm;
}

stopped_first : {T : Type 0} (old new : FilesState) (w : Written) (ws rest : List Written) (called wanted : List ℕ) (result : Result T FileRefusal)
    → ws ≡ w ∷ rest → called ≡ w.name → Puts old new called wanted result → Stopped ws old new
stopped_first old new w ws rest called wanted result parts same_name p = record {
  made = [];
  tried = w;
  left = rest;
  parts = parts;
  held = λ t name differs. p.others t name (λ e. differs (e ∙ same_name));
}

failed_outcome : (U : Type 0) (old new : FilesState) (ws : List Written) (f : Fault) (s : Stopped ws old new) → IsFault f (write_fault_line s.tried.name)
    → Rose old.write_faults new.write_faults → WriteOutcome {T = U} ws old new (Err f)
failed_outcome U old new ws (Failed line) s is rose = (s, is, rose)
failed_outcome U old new ws Memory s is rose = s

pub writes_failed : {T : Type 0} (U : Type 0) (old new : FilesState) (w : Written) (ws rest : List Written) (called wanted : List ℕ) (result : Result T FileRefusal) (f : Fault)
    → ws ≡ w ∷ rest → called ≡ w.name → result ≡ Err refusal.Failed → Puts old new called wanted result → IsFault f (write_fault_line w.name) → Writes {T = U} ws old new (Err f)
unfolding stopped_first
writes_failed U old new w ws rest called wanted result f parts same_name failed p is = record {
  outcome = failed_outcome U old new ws f (stopped_first old new w ws rest called wanted result parts same_name p) is
      (p.failed (subst (λ r. IsErrOf r refusal.Failed) (sym failed) refl));
  goes_on = p.goes_on;
  reads_stay = p.reads_stay;
  stays_calm = p.stays_calm;
}

pub writes_short : {T U : Type 0} (old new : FilesState) (w : Written) (ws rest : List Written) (called wanted : List ℕ) (result : Result T FileRefusal)
    → ws ≡ w ∷ rest → called ≡ w.name → Puts old new called wanted result → Writes {T = U} ws old new (Err Memory)
writes_short old new w ws rest called wanted result parts same_name p = record {
  outcome = stopped_first old new w ws rest called wanted result parts same_name p;
  goes_on = p.goes_on;
  reads_stay = p.reads_stay;
  stays_calm = p.stays_calm;
}
