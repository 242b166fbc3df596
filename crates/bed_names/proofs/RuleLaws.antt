-- Laws of refusals, and examples of the rules.
use Rattle.std.proofs.Common.{◌≡◌, ◌∙◌, sym, ap, subst, refl, arith, ℕ, ◌+◌, ◌*◌, ◌<◌, ◌≤◌, Bool, true, false, ◌⊎◌, inl, inr, List, [], ◌∷◌, Some, None}
use Rattle.std.specs.Prelude.{if◌then◌else◌, ◌&&◌, ◌||◌, ◌==◌, nat_lt}
use Rattle.std.proofs.lemmas.Bool.{ltb-true, ltb-false, le-ltb}
use Rattle.std.proofs.lemmas.Bool.Decides.{nat_tests}
use Rattle.bed_lang.specs.declared.module.Operand.{Operand}
use Rattle.bed_lang.specs.declared.module.Operand.TheVariants as operand
use Rattle.bed_lang.specs.declared.statement.Stmt.{fold_out-Stmt}
use Rattle.bed_lang.specs.declared.statement.StmtKind.{StmtKind-F, fold-roll-StmtKind, Return}
use Rattle.bed_lang.specs.declared.statement.StmtKind.TheVariants.{rolls-Return}
use Rattle.bed_names.specs.declared.error.NameError.{NameError}
use Rattle.bed_names.specs.declared.error.NameError.TheVariants.{Twice, Unknown, Sort, Arity, Dead, MissingJoin, FallsOff, StackRoom, Memory}
use Rattle.bed_names.specs.Faults.{place, rank, goes_before, noted}
use Rattle.bed_names.specs.Statements.{Surroundings, Judged, kind_step, stmt_step, judged, judged_kind, operand_faults}
use Rattle.bed_names.specs.Laws.{Among, RefusalIsFault, FaultsAreRefused, NoFaultGoesBefore, SecondReturnIsDead, CallsNeedRoom}

kept_next : (faults : List NameError) (b : Bool) (a x f : NameError)
    → ((g : NameError) → noted (Some g) faults ≡ Some f → (f ≡ g) ⊎ Among f faults)
    → noted (if b then Some x else Some a) faults ≡ Some f → (f ≡ a) ⊎ ((f ≡ x) ⊎ Among f faults)
kept_next faults true a x f later e = inr (later x e)
kept_next faults false a x f later e = elim (later a e) [ inl s ↦ inl s | inr m ↦ inr (inr m) ]

kept_or_among : (faults : List NameError) (a f : NameError) → noted (Some a) faults ≡ Some f → (f ≡ a) ⊎ Among f faults
kept_or_among [] a f e = inl cc
kept_or_among (x ∷ faults) a f e = kept_next faults (goes_before x a) a x f (λ g. kept_or_among faults g f) e

pub refusal_is_fault : RefusalIsFault
refusal_is_fault [] f e = absurd (cc)
refusal_is_fault (x ∷ faults) f e = kept_or_among faults x f e

stays_next : (faults : List NameError) (b : Bool) (a x : NameError) → ((g : NameError) → noted (Some g) faults ≡ None → ⊥)
    → noted (if b then Some x else Some a) faults ≡ None → ⊥
stays_next faults true a x later e = later x e
stays_next faults false a x later e = later a e

stays : (faults : List NameError) (a : NameError) → noted (Some a) faults ≡ None → ⊥
stays [] a e = cc
stays (x ∷ faults) a e = stays_next faults (goes_before x a) a x (λ g. stays faults g) e

pub faults_are_refused : FaultsAreRefused
faults_are_refused [] e = refl
faults_are_refused (x ∷ faults) e = absurd (stays faults x e)

-- faults in their order, as numbers: the place first, then the rule
abbrev key : NameError → ℕ
key f = place f * 9 + rank f

rank_below : (f : NameError) → rank f < 9
rank_below (Twice at) = omega arith
rank_below (Unknown at) = omega arith
rank_below (Sort at) = omega arith
rank_below (Arity at) = omega arith
rank_below (Dead at) = omega arith
rank_below (MissingJoin at) = omega arith
rank_below (FallsOff at) = omega arith
rank_below (StackRoom at needs has) = omega arith
rank_below Memory = omega arith

by_numbers : (p q r s : ℕ) → r < 9 → s < 9 → (nat_lt p q || ((p == q) && nat_lt r s)) ≡ nat_lt (p * 9 + r) (q * 9 + s)
by_numbers p q r s hr hs = grind (arith, nat_tests)

by_key : (a b : NameError) → goes_before a b ≡ nat_lt (key a) (key b)
by_key a b = by_numbers (place a) (place b) (rank a) (rank b) (rank_below a) (rank_below b)

abbrev IsLeast : NameError → List NameError → Type 0
IsLeast f faults = (g : NameError) → Among g faults → key f ≤ key g

least_next : (faults : List NameError) (b : Bool) (a x f : NameError) → b ≡ nat_lt (key x) (key a)
    → ((h : NameError) → noted (Some h) faults ≡ Some f → (key f ≤ key h) × IsLeast f faults)
    → noted (if b then Some x else Some a) faults ≡ Some f
    → (key f ≤ key a) × ((g : NameError) → (g ≡ x) ⊎ Among g faults → key f ≤ key g)
least_next faults true a x f e later n =
    let l = later x n in
    let less : key x < key a = ltb-true (key x) (key a) (sym e) in
    (omega (arith, l.0), λ g m. elim m [ inl s ↦ subst (λ y. key f ≤ key y) (sym s) l.0 | inr i ↦ l.1 g i ])
least_next faults false a x f e later n =
    let l = later a n in
    let more : key a ≤ key x = ltb-false (key x) (key a) (sym e) in
    (l.0, λ g m. elim m [ inl s ↦ subst (λ y. key f ≤ key y) (sym s) (omega (arith, l.0)) | inr i ↦ l.1 g i ])

least : (faults : List NameError) (a f : NameError) → noted (Some a) faults ≡ Some f → (key f ≤ key a) × IsLeast f faults
least [] a f e = let same : a ≡ f = cc in (subst (λ y. key y ≤ key a) same (omega arith), λ g m. absurd m)
least (x ∷ faults) a f e = least_next faults (goes_before x a) a x f (by_key x a) (λ h. least faults h f) e

among_next : (f x : NameError) (faults : List NameError) → (key f ≤ key x) × IsLeast f faults → IsLeast f (x ∷ faults)
among_next f x faults l g (inl s) = subst (λ y. key f ≤ key y) (sym s) l.0
among_next f x faults l g (inr i) = l.1 g i

pub no_fault_goes_before : NoFaultGoesBefore
no_fault_goes_before [] f g e m = absurd m
no_fault_goes_before (x ∷ faults) f g e m =
    by_key g f ∙ le-ltb (key g) (key f) (among_next f x faults (least faults x f e) g m)

-- a `return` as the rules see it
judged-Return : (i : Surroundings) (at : ℕ) (a : Operand)
    → judged i (record { at = at; kind = Return a }) ≡ record { at = at; falls = false; faults = operand_faults i a }
judged-Return i at a =
    fold_out-Stmt (ℕ → Judged) Judged (kind_step i) (stmt_step i) (record { at = at; kind = Return a })
    ∙ (ap (λ k. record (judged_kind i k at) { at = at }) (sym (rolls-Return a))
    ∙ ap (λ f. record (f at) { at = at }) (fold-roll-StmtKind (ℕ → Judged) Judged (kind_step i) (stmt_step i) (StmtKind-F.Return a)))

pub second_return_is_dead : SecondReturnIsDead
second_return_is_dead i first second = (
  rw (judged-Return i first (operand.Number 1), judged-Return i second (operand.Number 2)) refl,
  rw (judged-Return i first (operand.Number 1), judged-Return i second (operand.Number 2)) refl,
)

pub calls_need_room : CallsNeedRoom
calls_need_room caller callee local x a at r p = (λ n. rw (r, p, n) refl, λ n. rw (r, p, n) refl)
