-- Wording changes no fault of a statement, nor whether it falls through.
use Rattle.std.proofs.Common.{◌≡◌, ℕ, Bool, false, ◌||◌, not, List, [], ◌∷◌, ◌++◌, map, Option, None, Some, bytes_eq, refl, ap, subst, ◌∙◌}
use Rattle.std.proofs.Math.Path.{fun_ext}
use Rattle.bed_lang.specs.declared.word.Name.{Name}
use Rattle.bed_lang.specs.declared.word.Seq.{Seq}
use Rattle.bed_lang.specs.declared.logic.Assertion.{Assertion}
use Rattle.bed_lang.specs.declared.module.Operand.{Operand}
use Rattle.bed_lang.specs.declared.module.Operand.TheVariants as operand
use Rattle.bed_lang.specs.declared.module.Place.{Place}
use Rattle.bed_lang.specs.declared.module.Test.{Test}
use Rattle.bed_lang.specs.declared.module.Join.{Join}
use Rattle.bed_lang.specs.declared.module.Signature.{Signature}
use Rattle.bed_lang.specs.declared.statement.Stmt.{Stmt, fold-Stmt}
use Rattle.bed_lang.specs.declared.statement.StmtKind.{StmtKind-F}
use Rattle.bed_lang.specs.declared.condition.Decls.{Decls}
use Rattle.bed_names.specs.declared.error.NameError.{NameError}
use Rattle.bed_names.specs.declared.error.NameError.TheVariants.{Twice, Dead, MissingJoin}
use Rattle.bed_names.specs.Faults.{fault_if}
use Rattle.bed_lang.specs.Lookups.{signature_named, label_signature, named_signature}
use Rattle.bed_names.specs.Names.{sequences}
use Rattle.bed_names.specs.Terms.{with_names, seq_faults, twice_faults, assertion_faults, hints_faults}
use Rattle.bed_names.specs.Statements.{Surroundings, Judged, callee, callee_faults, is_local, operand_place, local_faults, operand_faults, operands_faults, test_faults, via_faults, assign_faults, move_faults, call_head_faults, keep_faults, other_local_faults, key_faults, list_keep_faults, find_faults, walk_faults, falls_through, list_faults, straight, join_faults, kind_step, stmt_step, judged}
use Rattle.bed_names.proofs.ArgumentLaws.{changed_layer, fold_changed}
use Rattle.bed_print.proofs.Worded.{worded_arg, worded_assertion, worded_hint, worded_join, worded_keep, worded_stmt}
use Rattle.bed_print.proofs.WordedScopes.{SameDeclarations, SameSignatures}
use Rattle.bed_print.proofs.WordedFaults.{both, all_same, under, label_under, signature_name_under, seq_under, hints_under, hint_under, assertion_under, hints_worded, hint_worded, assertion_worded}

-- ---- under other declarations in which names stand for the same

abbrev pub around : Decls → Surroundings → Surroundings
around d i = record i { visible = under d i.visible }

-- the faults of a call depend on no assertion of its callee
callee_same : (area : Option ℕ) (o q : Option Signature) (args : List Operand) (at : ℕ) → SameSignatures o q
    → callee_faults area o args at ≡ callee_faults area q args at
callee_same area None None args at h = refl
callee_same area None (Some t) args at h = absurd h
callee_same area (Some s) None args at h = absurd h
callee_same area (Some s) (Some t) args at h =
    ap (λ x. callee_faults area (Some (record s { params = x })) args at) h.0
    ∙ ap (λ x. callee_faults area (Some (record s { params = t.params; reserve = x })) args at) h.2

module _ (d : Decls) (i : Surroundings) (same : SameDeclarations d i.visible.decls) where
  operand_around : (a : Operand) → operand_faults (around d i) a ≡ operand_faults i a
  operand_around (operand.Number n) = refl
  operand_around (operand.Local x) = refl
  operand_around (operand.Label f) = label_under d i.visible same f

  operands_around : (args : List Operand) → operands_faults (around d i) args ≡ operands_faults i args
  operands_around args = all_same (operand_faults (around d i)) (operand_faults i) operand_around args

  test_around : (t : Test) → test_faults (around d i) t ≡ test_faults i t
  test_around t =
      both (operand_faults (around d i) t.left) (operand_faults (around d i) t.right) (operand_faults i t.left) (operand_faults i t.right)
      (operand_around t.left) (operand_around t.right)

  via_around : (via : Option Name) → via_faults (around d i) via ≡ via_faults i via
  via_around None = refl
  via_around (Some x) = signature_name_under d i.visible same x

  assign_around : (x : Name) (a : Operand) → assign_faults (around d i) x a ≡ assign_faults i x a
  assign_around x a = ap (λ l. local_faults i x ++ l) (operand_around a)

  move_around : (p : Place) (a : Operand) → move_faults (around d i) p a ≡ move_faults i p a
  move_around p a =
      both (operand_faults (around d i) p.base) (operand_faults (around d i) a) (operand_faults i p.base) (operand_faults i a)
      (operand_around p.base) (operand_around a)

  abbrev CalleeSame : Operand → Option Name → Type 0
  CalleeSame target via = SameSignatures (callee d target via) (callee i.visible.decls target via)

  of_label : (o q : Option Name) → o ≡ q → SameSignatures (named_signature d o) (named_signature i.visible.decls q)
  of_label None None e = tt
  of_label None (Some y) e = absurd (cc)
  of_label (Some x) None e = absurd (cc)
  of_label (Some x) (Some y) e =
      let equal : x ≡ y = cc in
      subst (λ z. SameSignatures (signature_named d x.bytes) (signature_named i.visible.decls z.bytes)) equal (same.signature x)

  callee_around : (target : Operand) (via : Option Name) → CalleeSame target via
  callee_around target (Some x) = same.signature x
  callee_around (operand.Label f) None = of_label (label_signature d f.bytes) (label_signature i.visible.decls f.bytes) (same.label f)
  callee_around (operand.Number n) None = tt
  callee_around (operand.Local x) None = tt

  call_head_around : (at : ℕ) (into : Name) (target : Operand) (via : Option Name) (args : List Operand)
      → call_head_faults (around d i) at into target via args ≡ call_head_faults i at into target via args
  call_head_around at into target via args =
      let new : Option Signature = callee d target via in
      let old : Option Signature = callee i.visible.decls target via in
      ap (λ l. local_faults i into ++ l)
      (both (callee_faults i.area new args at)
      (operand_faults (around d i) target ++ (via_faults (around d i) via ++ operands_faults (around d i) args))
      (callee_faults i.area old args at)
      (operand_faults i target ++ (via_faults i via ++ operands_faults i args))
      (callee_same i.area new old args at (callee_around target via))
      (both (operand_faults (around d i) target) (via_faults (around d i) via ++ operands_faults (around d i) args)
      (operand_faults i target) (via_faults i via ++ operands_faults i args)
      (operand_around target)
      (both (via_faults (around d i) via) (operands_faults (around d i) args) (via_faults i via) (operands_faults i args)
      (via_around via) (operands_around args))))

  keep_around : (u t : Name) (a : Assertion) → keep_faults (around d i) u t a ≡ keep_faults i u t a
  keep_around u t a =
      ap (λ l. twice_faults i.visible.names (u ∷ t ∷ []) ++ l)
      (assertion_under d (with_names i.visible (sequences (u ∷ t ∷ []))) same a)

  list_keep_around : (twice : Bool) (p : Name) (s : Seq) (u t : Name) (a : Assertion)
      → list_keep_faults (around d i) twice p s u t a ≡ list_keep_faults i twice p s u t a
  list_keep_around twice p s u t a =
      ap (λ l. other_local_faults i twice p ++ l)
      (both (seq_faults (under d i.visible) s) (keep_faults (around d i) u t a) (seq_faults i.visible s) (keep_faults i u t a)
      (seq_under d i.visible same s) (keep_around u t a))

  find_around : (n v : Name) (a : Operand) (p : Name) (s : Seq) (u t : Name) (keep : Assertion)
      → find_faults (around d i) n v a p s u t keep ≡ find_faults i n v a p s u t keep
  find_around n v a p s u t keep =
      let twice : Bool = bytes_eq p.bytes n.bytes || (bytes_eq p.bytes v.bytes || is_local a p) in
      ap (λ l. local_faults i n ++ (other_local_faults i (bytes_eq v.bytes n.bytes) v ++ l))
      (both (key_faults (around d i) (is_local a n || is_local a v) a) (list_keep_faults (around d i) twice p s u t keep)
      (key_faults i (is_local a n || is_local a v) a) (list_keep_faults i twice p s u t keep)
      (ap (λ l. fault_if (is_local a n || is_local a v) (Twice (operand_place a)) ++ l) (operand_around a))
      (list_keep_around twice p s u t keep))

  walk_around : (n v p : Name) (s : Seq) (u t : Name) (keep : Assertion)
      → walk_faults (around d i) n v p s u t keep ≡ walk_faults i n v p s u t keep
  walk_around n v p s u t keep =
      ap (λ l. local_faults i n ++ (other_local_faults i (bytes_eq v.bytes n.bytes) v ++ l))
      (list_keep_around (bytes_eq p.bytes n.bytes || bytes_eq p.bytes v.bytes) p s u t keep)

  join_around : (at : ℕ) (some none : Bool) (j : Option Join) → join_faults (under d i.visible) at some none j ≡ join_faults i.visible at some none j
  join_around at some none None = refl
  join_around at some none (Some j) = ap (λ l. fault_if (not (some || none)) (Dead j.place) ++ l) (assertion_under d i.visible same j.assertion)

  step_around : (x : StmtKind-F (ℕ → Judged) Judged) (at : ℕ) → kind_step (around d i) x at ≡ kind_step i x at
  step_around (StmtKind-F.Assign x a) at = ap (straight at) (assign_around x a)
  step_around (StmtKind-F.Compute x op a b) at =
      ap (straight at)
      (both (assign_faults (around d i) x a) (operand_faults (around d i) b) (assign_faults i x a) (operand_faults i b) (assign_around x a) (operand_around b))
  step_around (StmtKind-F.Load x p) at = ap (straight at) (assign_around x p.base)
  step_around (StmtKind-F.LoadByte x p) at = ap (straight at) (assign_around x p.base)
  step_around (StmtKind-F.Store p a) at = ap (straight at) (move_around p a)
  step_around (StmtKind-F.StoreByte p a) at = ap (straight at) (move_around p a)
  step_around (StmtKind-F.Call place into target via args hints after) at =
      ap (straight at)
      (both (call_head_faults (around d i) place into target via args)
      (hints_faults (under d i.visible) hints ++ assertion_faults (under d i.visible) after)
      (call_head_faults i place into target via args)
      (hints_faults i.visible hints ++ assertion_faults i.visible after)
      (call_head_around place into target via args)
      (both (hints_faults (under d i.visible) hints) (assertion_faults (under d i.visible) after)
      (hints_faults i.visible hints) (assertion_faults i.visible after)
      (hints_under d i.visible same hints) (assertion_under d i.visible same after)))
  step_around (StmtKind-F.If test ys ns join) at =
      let falls : Bool = falls_through ys || falls_through ns in
      let new : List NameError = join_faults (under d i.visible) at (falls_through ys) (falls_through ns) join in
      let old : List NameError = join_faults i.visible at (falls_through ys) (falls_through ns) join in
      ap (λ l. record { at = at; falls = falls; faults = l })
      (both (test_faults (around d i) test) (list_faults ys ++ (list_faults ns ++ new)) (test_faults i test) (list_faults ys ++ (list_faults ns ++ old))
      (test_around test)
      (ap (λ l. list_faults ys ++ (list_faults ns ++ l)) (join_around at (falls_through ys) (falls_through ns) join)))
  step_around (StmtKind-F.While test place invariant' body) at =
      ap (straight at)
      (both (test_faults (around d i) test) (assertion_faults (under d i.visible) invariant' ++ list_faults body)
      (test_faults i test) (assertion_faults i.visible invariant' ++ list_faults body)
      (test_around test) (ap (λ l. l ++ list_faults body) (assertion_under d i.visible same invariant')))
  step_around (StmtKind-F.Return a) at = ap (λ l. record { at = at; falls = false; faults = l }) (operand_around a)
  step_around (StmtKind-F.Hint h) at = ap (straight at) (hint_under d i.visible same h)
  step_around (StmtKind-F.Find n v a p s u t keep body) at =
      ap (λ l. straight at (l ++ (list_faults body ++ fault_if (falls_through body) (MissingJoin at)))) (find_around n v a p s u t keep)
  step_around (StmtKind-F.Walk n v p s u t keep body) at =
      ap (λ l. straight at (l ++ (list_faults body ++ fault_if (not (falls_through body)) (Dead at)))) (walk_around n v p s u t keep)

  judged_around : (s : Stmt) → judged (around d i) s ≡ judged i s
  judged_around s =
      ap (λ step. fold-Stmt (ℕ → Judged) Judged step (stmt_step i) s)
      (fun_ext (λ x. fun_ext (step_around x)))

-- ---- where names alone become words

module _ (i : Surroundings) where
  keep_worded : (u t : Name) (a : Assertion) → keep_faults i u t (worded_keep i.visible u t a) ≡ keep_faults i u t a
  keep_worded u t a =
      ap (λ l. twice_faults i.visible.names (u ∷ t ∷ []) ++ l) (assertion_worded (with_names i.visible (sequences (u ∷ t ∷ []))) a)

  join_worded : (at : ℕ) (some none : Bool) (j : Option Join) → join_faults i.visible at some none (worded_join i.visible j) ≡ join_faults i.visible at some none j
  join_worded at some none None = refl
  join_worded at some none (Some j) = ap (λ l. fault_if (not (some || none)) (Dead j.place) ++ l) (assertion_worded i.visible j.assertion)

  step_worded : (x : StmtKind-F (ℕ → Judged) Judged) (at : ℕ) → kind_step i (changed_layer worded_arg i.visible x) at ≡ kind_step i x at
  step_worded (StmtKind-F.Assign x a) at = refl
  step_worded (StmtKind-F.Compute x op a b) at = refl
  step_worded (StmtKind-F.Load x p) at = refl
  step_worded (StmtKind-F.LoadByte x p) at = refl
  step_worded (StmtKind-F.Store p a) at = refl
  step_worded (StmtKind-F.StoreByte p a) at = refl
  step_worded (StmtKind-F.Call place into target via args hints after) at =
      ap (λ l. straight at (call_head_faults i place into target via args ++ l))
      (both (hints_faults i.visible (map (worded_hint i.visible) hints)) (assertion_faults i.visible (worded_assertion i.visible after))
      (hints_faults i.visible hints) (assertion_faults i.visible after)
      (hints_worded i.visible hints) (assertion_worded i.visible after))
  step_worded (StmtKind-F.If test ys ns join) at =
      ap (λ l. record {
        at = at;
        falls = falls_through ys || falls_through ns;
        faults = test_faults i test ++ (list_faults ys ++ (list_faults ns ++ l));
      })
      (join_worded at (falls_through ys) (falls_through ns) join)
  step_worded (StmtKind-F.While test place invariant' body) at =
      ap (λ l. straight at (test_faults i test ++ (l ++ list_faults body))) (assertion_worded i.visible invariant')
  step_worded (StmtKind-F.Return a) at = refl
  step_worded (StmtKind-F.Hint h) at = ap (straight at) (hint_worded i.visible h)
  step_worded (StmtKind-F.Find n v a p s u t keep body) at =
      let twice : Bool = bytes_eq p.bytes n.bytes || (bytes_eq p.bytes v.bytes || is_local a p) in
      ap (λ l. straight at
      ((local_faults i n
      ++ (other_local_faults i (bytes_eq v.bytes n.bytes) v
      ++ (key_faults i (is_local a n || is_local a v) a ++ (other_local_faults i twice p ++ (seq_faults i.visible s ++ l)))))
      ++ (list_faults body ++ fault_if (falls_through body) (MissingJoin at))))
      (keep_worded u t keep)
  step_worded (StmtKind-F.Walk n v p s u t keep body) at =
      let twice : Bool = bytes_eq p.bytes n.bytes || bytes_eq p.bytes v.bytes in
      ap (λ l. straight at
      ((local_faults i n
      ++ (other_local_faults i (bytes_eq v.bytes n.bytes) v ++ (other_local_faults i twice p ++ (seq_faults i.visible s ++ l))))
      ++ (list_faults body ++ fault_if (not (falls_through body)) (Dead at))))
      (keep_worded u t keep)

  judged_worded : (s : Stmt) → judged i (worded_stmt i.visible s) ≡ judged i s
  judged_worded s =
      fold_changed worded_arg i.visible (kind_step i) (stmt_step i) s
      ∙ ap (λ step. fold-Stmt (ℕ → Judged) Judged step (stmt_step i) s)
      (fun_ext (λ x. fun_ext (step_worded x)))

pub body_same : (d : Decls) (i : Surroundings) → SameDeclarations d i.visible.decls → (body : List Stmt)
    → map (judged (around d i)) (map (worded_stmt i.visible) body) ≡ map (judged i) body
body_same d i same [] = refl
body_same d i same (s ∷ body) =
    ap (λ j. j ∷ map (judged (around d i)) (map (worded_stmt i.visible) body)) (judged_around d i same (worded_stmt i.visible s) ∙ judged_worded i s)
    ∙ ap (λ js. judged i s ∷ js) (body_same d i same body)
