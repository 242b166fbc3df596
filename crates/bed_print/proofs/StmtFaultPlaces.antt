-- The faults of statements are the same, each at place 0, where every place is set to 0; and the same statements fall through.
use Rattle.std.proofs.Common.{◌≡◌, ◌∙◌, sym, ap, ap₂, refl, subst, subst₂, ℕ, ◌+◌, Bool, true, ◌&&◌, ◌||◌, ◌==◌, not, List, [], ◌∷◌, map, Option, None, Some, bytes_eq}
use Rattle.std.proofs.lemmas.List.{length-map}
use Rattle.bed_lang.specs.declared.word.Name.{Name}
use Rattle.bed_lang.specs.declared.word.Seq.{Seq}
use Rattle.bed_lang.specs.declared.logic.Assertion.{Assertion}
use Rattle.bed_lang.specs.declared.module.Operand.{Operand}
use Rattle.bed_lang.specs.declared.module.Operand.TheVariants as operand
use Rattle.bed_lang.specs.declared.module.Signature.{Signature}
use Rattle.bed_lang.specs.declared.module.Place.{Place}
use Rattle.bed_lang.specs.declared.module.Test.{Test}
use Rattle.bed_lang.specs.declared.module.Hint.{Hint}
use Rattle.bed_lang.specs.declared.module.Join.{Join}
use Rattle.bed_lang.specs.declared.statement.Stmt.{Stmt, ind-Stmt, fold-roll-Stmt, fold_out-Stmt}
use Rattle.bed_lang.specs.declared.statement.StmtKind.{StmtKind, StmtKind-F, roll-StmtKind, map-StmtKind, fold-roll-StmtKind}
use Rattle.bed_lang.specs.declared.condition.Decls.{Decls}
use Rattle.bed_names.specs.declared.error.NameError.{NameError}
use Rattle.bed_names.specs.declared.error.NameError.TheVariants.{Twice, Unknown, Arity, Dead, MissingJoin, StackRoom}
use Rattle.bed_names.specs.Faults.{fault_if}
use Rattle.bed_lang.specs.Lookups.{label_signature, named_signature}
use Rattle.bed_names.specs.Names.{sequences}
use Rattle.bed_names.specs.Terms.{Visible, with_names}
use Rattle.bed_names.specs.Statements.{Surroundings, frame, callee, room_faults, callee_faults, is_local, operand_place, local_faults, operand_faults, operands_faults, test_faults, via_faults, assign_faults, compute_faults, move_faults, call_head_faults, call_faults, keep_faults, other_local_faults, key_faults, list_keep_faults, find_faults, walk_faults, Judged, falls_after, falls_through, faults_after, list_faults, straight, join_faults, kind_step, stmt_step, judged_kind, judged, body_falls, body_faults}
use Rattle.bed_print.proofs.Places.{bare_option, bare_name, bare_seq, bare_assertion, bare_signature, bare_operand, bare_place, bare_test, bare_hint, bare_join, bare_kind_step, bare_stmt_step, bare_stmt_kind, bare_stmt}
use Rattle.bed_print.proofs.BareRolls.{Layer, bare_kind_layer, bare_below, bare_kind-roll}
use Rattle.bed_print.proofs.NamesPlaces.{bare_decls, bare_visible, with_names_bare, signature_named_bare, label_signature_bare, is_among_bare}
use Rattle.bed_print.proofs.FaultPlaces.{Unplaced, none, joined, tested, all_joined, label_bare, signature_name_bare, seq_bare, twice_bare, assertion_bare, assertion_bare_in, hint_bare, hints_bare}

abbrev pub bare_surroundings : Surroundings → Surroundings
bare_surroundings i = record { visible = bare_visible i.visible; locals = map bare_name i.locals; area = i.area }

-- ---- calls

frame_bare : (s : Signature) → frame (bare_signature s) ≡ frame s
frame_bare s = ap (λ n. 1 + n + s.reserve) (length-map s.params bare_name)

of_label_bare : (d : Decls) (x : Option Name)
    → named_signature (bare_decls d) (bare_option bare_name x) ≡ bare_option bare_signature (named_signature d x)
of_label_bare d None = refl
of_label_bare d (Some x) = signature_named_bare d x

callee_bare : (d : Decls) (target : Operand) (via : Option Name)
    → callee (bare_decls d) (bare_operand target) (bare_option bare_name via) ≡ bare_option bare_signature (callee d target via)
callee_bare d target (Some x) = signature_named_bare d x
callee_bare d (operand.Number n) None = refl
callee_bare d (operand.Local x) None = refl
callee_bare d (operand.Label f) None = ap (named_signature (bare_decls d)) (label_signature_bare d f) ∙ of_label_bare d (label_signature d f.bytes)

room_bare : (area : Option ℕ) (needs at : ℕ) → Unplaced (room_faults area needs 0) (room_faults area needs at)
room_bare None needs at = none
room_bare (Some has) needs at = tested refl (StackRoom at needs has)

callee_faults_bare : (area : Option ℕ) (s : Option Signature) (args : List Operand) (at : ℕ)
    → Unplaced (callee_faults area (bare_option bare_signature s) (map bare_operand args) 0) (callee_faults area s args at)
callee_faults_bare area None args at = none
callee_faults_bare area (Some s) args at =
    joined (tested (ap₂ (λ n m. not (n == m)) (length-map s.params bare_name) (length-map args bare_operand)) (Arity at))
    (subst (λ n. Unplaced (room_faults area n 0) (room_faults area (frame s) at)) (sym (frame_bare s)) (room_bare area (frame s) at))

is_local_bare : (a : Operand) (x : Name) → is_local (bare_operand a) (bare_name x) ≡ is_local a x
is_local_bare (operand.Number n) x = refl
is_local_bare (operand.Local y) x = refl
is_local_bare (operand.Label f) x = refl

operand_place_bare : (a : Operand) → operand_place (bare_operand a) ≡ 0
operand_place_bare (operand.Number n) = refl
operand_place_bare (operand.Local x) = refl
operand_place_bare (operand.Label f) = refl

-- ---- lists of statements

-- the first is what the second is, at place 0
pub record SameJudged (j' j : Judged) : Type 0 where
  pub at : j'.at ≡ 0
  pub falls : j'.falls ≡ j.falls
  pub faults : Unplaced j'.faults j.faults

straight_bare : {f' f : List NameError} (at : ℕ) → Unplaced f' f → SameJudged (straight 0 f') (straight at f)
straight_bare at h = record { at = refl; falls = refl; faults = h }

-- each is what the other one in its place is
abbrev AllSame : List Judged → List Judged → Type 0
AllSame [] [] = Unit {0}
AllSame (x ∷ xs) (y ∷ ys) = SameJudged x y × AllSame xs ys
AllSame _ _ = ⊥

falls_after_bare : (xs ys : List Judged) (f' f : Bool) → AllSame xs ys → f' ≡ f → falls_after f' xs ≡ falls_after f ys
falls_after_bare [] [] f' f h e = e
falls_after_bare [] (y ∷ ys) f' f h e = absurd h
falls_after_bare (x ∷ xs) [] f' f h e = absurd h
falls_after_bare (x ∷ xs) (y ∷ ys) f' f h e = falls_after_bare xs ys x.falls y.falls h.1 h.0.falls

falls_bare : (xs ys : List Judged) → AllSame xs ys → falls_through xs ≡ falls_through ys
falls_bare xs ys h = falls_after_bare xs ys true true h refl

faults_after_bare : (xs ys : List Judged) (f' f : Bool) → AllSame xs ys → f' ≡ f → Unplaced (faults_after f' xs) (faults_after f ys)
faults_after_bare [] [] f' f h e = none
faults_after_bare [] (y ∷ ys) f' f h e = absurd h
faults_after_bare (x ∷ xs) [] f' f h e = absurd h
faults_after_bare (x ∷ xs) (y ∷ ys) f' f h e =
    joined (subst (λ n. Unplaced (fault_if (not f') (Dead n)) (fault_if (not f) (Dead y.at))) (sym h.0.at) (tested (ap not e) (Dead y.at)))
    (joined h.0.faults (faults_after_bare xs ys x.falls y.falls h.1 h.0.falls))

list_bare : (xs ys : List Judged) → AllSame xs ys → Unplaced (list_faults xs) (list_faults ys)
list_bare xs ys h = faults_after_bare xs ys true true h refl

join_bare : (v : Visible) (at : ℕ) {y' y n' n : Bool} (j : Option Join) → y' ≡ y → n' ≡ n
    → Unplaced (join_faults (bare_visible v) 0 y' n' (bare_option bare_join j)) (join_faults v at y n j)
join_bare v at None ey en = tested (ap₂ (λ a b. a && b) ey en) (MissingJoin at)
join_bare v at (Some j) ey en = joined (tested (ap₂ (λ a b. not (a || b)) ey en) (Dead j.place)) (assertion_bare v j.assertion)

-- ---- the parts of statements

module _ (i : Surroundings) where
  abbrev i' : Surroundings
  i' = bare_surroundings i

  local_bare : (x : Name) → Unplaced (local_faults i' (bare_name x)) (local_faults i x)
  local_bare x = tested (ap not (is_among_bare i.locals x)) (Unknown x.at)

  operand_bare : (a : Operand) → Unplaced (operand_faults i' (bare_operand a)) (operand_faults i a)
  operand_bare (operand.Number n) = none
  operand_bare (operand.Local x) = local_bare x
  operand_bare (operand.Label f) = label_bare i.visible f

  operands_bare : (args : List Operand) → Unplaced (operands_faults i' (map bare_operand args)) (operands_faults i args)
  operands_bare args = all_joined bare_operand _ _ operand_bare args

  test_bare : (t : Test) → Unplaced (test_faults i' (bare_test t)) (test_faults i t)
  test_bare t = joined (operand_bare t.left) (operand_bare t.right)

  via_bare : (x : Option Name) → Unplaced (via_faults i' (bare_option bare_name x)) (via_faults i x)
  via_bare None = none
  via_bare (Some x) = signature_name_bare i.visible x

  assign_bare : (x : Name) (a : Operand) → Unplaced (assign_faults i' (bare_name x) (bare_operand a)) (assign_faults i x a)
  assign_bare x a = joined (local_bare x) (operand_bare a)

  compute_bare : (x : Name) (a b : Operand) → Unplaced (compute_faults i' (bare_name x) (bare_operand a) (bare_operand b)) (compute_faults i x a b)
  compute_bare x a b = joined (assign_bare x a) (operand_bare b)

  move_bare : (p : Place) (a : Operand) → Unplaced (move_faults i' (bare_place p) (bare_operand a)) (move_faults i p a)
  move_bare p a = joined (operand_bare p.base) (operand_bare a)

  call_head_bare : (at : ℕ) (into : Name) (target : Operand) (via : Option Name) (args : List Operand)
      → Unplaced (call_head_faults i' 0 (bare_name into) (bare_operand target) (bare_option bare_name via) (map bare_operand args))
      (call_head_faults i at into target via args)
  call_head_bare at into target via args =
      joined (local_bare into)
      (joined
      (subst (λ s. Unplaced (callee_faults i.area s (map bare_operand args) 0) (callee_faults i.area (callee i.visible.decls target via) args at))
      (sym (callee_bare i.visible.decls target via))
      (callee_faults_bare i.area (callee i.visible.decls target via) args at))
      (joined (operand_bare target) (joined (via_bare via) (operands_bare args))))

  call_bare : (at : ℕ) (into : Name) (target : Operand) (via : Option Name) (args : List Operand) (hints : List Hint) (after : Assertion)
      → Unplaced (call_faults i' 0 (bare_name into) (bare_operand target) (bare_option bare_name via) (map bare_operand args) (map bare_hint hints) (bare_assertion after))
      (call_faults i at into target via args hints after)
  call_bare at into target via args hints after =
      joined (call_head_bare at into target via args) (joined (hints_bare i.visible hints) (assertion_bare i.visible after))

  keep_bare : (u t : Name) (a : Assertion) → Unplaced (keep_faults i' (bare_name u) (bare_name t) (bare_assertion a)) (keep_faults i u t a)
  keep_bare u t a =
      joined (twice_bare i.visible.names (u ∷ t ∷ []) refl refl)
      (assertion_bare_in (with_names i.visible (sequences (u ∷ t ∷ []))) _ a (with_names_bare i.visible (sequences (u ∷ t ∷ []))))

  other_local_bare : {b' b : Bool} → b' ≡ b → (x : Name) → Unplaced (other_local_faults i' b' (bare_name x)) (other_local_faults i b x)
  other_local_bare e x = joined (tested e (Twice x.at)) (local_bare x)

  key_bare : {b' b : Bool} → b' ≡ b → (a : Operand) → Unplaced (key_faults i' b' (bare_operand a)) (key_faults i b a)
  key_bare {b'} {b} e a =
      joined
      (subst (λ n. Unplaced (fault_if b' (Twice n)) (fault_if b (Twice (operand_place a)))) (sym (operand_place_bare a)) (tested e (Twice (operand_place a))))
      (operand_bare a)

  list_keep_bare : {b' b : Bool} → b' ≡ b → (p : Name) (s : Seq) (u t : Name) (keep : Assertion)
      → Unplaced (list_keep_faults i' b' (bare_name p) (bare_seq s) (bare_name u) (bare_name t) (bare_assertion keep)) (list_keep_faults i b p s u t keep)
  list_keep_bare e p s u t keep = joined (other_local_bare e p) (joined (seq_bare i.visible s) (keep_bare u t keep))

  find_bare : (n v : Name) (a : Operand) (p : Name) (s : Seq) (u t : Name) (keep : Assertion)
      → Unplaced (find_faults i' (bare_name n) (bare_name v) (bare_operand a) (bare_name p) (bare_seq s) (bare_name u) (bare_name t) (bare_assertion keep))
      (find_faults i n v a p s u t keep)
  find_bare n v a p s u t keep =
      joined (local_bare n)
      (joined (other_local_bare refl v)
      (joined (key_bare (ap₂ (λ b c. b || c) (is_local_bare a n) (is_local_bare a v)) a)
      (list_keep_bare (ap (λ b. bytes_eq p.bytes n.bytes || (bytes_eq p.bytes v.bytes || b)) (is_local_bare a p)) p s u t keep)))

  walk_bare : (n v p : Name) (s : Seq) (u t : Name) (keep : Assertion)
      → Unplaced (walk_faults i' (bare_name n) (bare_name v) (bare_name p) (bare_seq s) (bare_name u) (bare_name t) (bare_assertion keep))
      (walk_faults i n v p s u t keep)
  walk_bare n v p s u t keep =
      joined (local_bare n) (joined (other_local_bare refl v) (list_keep_bare refl p s u t keep))

  -- ---- statements

  abbrev StmtBare : Stmt → Type 0
  StmtBare s = SameJudged (judged i' (bare_stmt s)) (judged i s)

  abbrev KindBare : StmtKind → Type 0
  KindBare k = (at : ℕ) → SameJudged (judged_kind i' (bare_stmt_kind k) 0) (judged_kind i k at)

  abbrev Stmts : Type 0
  Stmts = (s : Stmt) × StmtBare s

  abbrev Kinds : Type 0
  Kinds = (k : StmtKind) × KindBare k

  bodies : (ss : List Stmts) → AllSame (map (judged i') (map bare_stmt (map (λ s. s.0) ss))) (map (judged i) (map (λ s. s.0) ss))
  bodies [] = tt
  bodies (s ∷ ss) = (s.1, bodies ss)

  abbrev trees : StmtKind-F Kinds Stmts → Layer
  trees = map-StmtKind Kinds Stmts StmtKind Stmt (λ k. k.0) (λ s. s.0)

  abbrev bare_layer : Layer → ℕ → Judged
  bare_layer x at = kind_step i' (map-StmtKind _ _ _ _ (judged_kind i') (judged i') (bare_kind_layer (bare_below x))) at

  abbrev layer : Layer → ℕ → Judged
  layer x at = kind_step i (map-StmtKind _ _ _ _ (judged_kind i) (judged i) x) at

  kind_layer : (y : StmtKind-F Kinds Stmts) (at : ℕ) → SameJudged (bare_layer (trees y) 0) (layer (trees y) at)
  kind_layer (StmtKind-F.Assign x a) at = straight_bare at (assign_bare x a)
  kind_layer (StmtKind-F.Compute x o a b) at = straight_bare at (compute_bare x a b)
  kind_layer (StmtKind-F.Load x p) at = straight_bare at (assign_bare x p.base)
  kind_layer (StmtKind-F.LoadByte x p) at = straight_bare at (assign_bare x p.base)
  kind_layer (StmtKind-F.Store p a) at = straight_bare at (move_bare p a)
  kind_layer (StmtKind-F.StoreByte p a) at = straight_bare at (move_bare p a)
  kind_layer (StmtKind-F.Call place x target via xs hints after) at = straight_bare at (call_bare place x target via xs hints after)
  kind_layer (StmtKind-F.If t ys ns j) at = record {
    at = refl;
    falls = ap₂ (λ a b. a || b) (falls_bare _ _ (bodies ys)) (falls_bare _ _ (bodies ns));
    faults = joined (test_bare t) (joined (list_bare _ _ (bodies ys)) (joined (list_bare _ _ (bodies ns)) (join_bare i.visible at j (falls_bare _ _ (bodies ys)) (falls_bare _ _ (bodies ns)))));
  }
  kind_layer (StmtKind-F.While t place inv ss) at =
      straight_bare at (joined (test_bare t) (joined (assertion_bare i.visible inv) (list_bare _ _ (bodies ss))))
  kind_layer (StmtKind-F.Return a) at = record { at = refl; falls = refl; faults = operand_bare a }
  kind_layer (StmtKind-F.Hint h) at = straight_bare at (hint_bare i.visible h)
  kind_layer (StmtKind-F.Find n v a p s u t keep ss) at =
      straight_bare at (joined (find_bare n v a p s u t keep) (joined (list_bare _ _ (bodies ss)) (tested (falls_bare _ _ (bodies ss)) (MissingJoin at))))
  kind_layer (StmtKind-F.Walk n v p s u t keep ss) at =
      straight_bare at (joined (walk_bare n v p s u t keep) (joined (list_bare _ _ (bodies ss)) (tested (ap not (falls_bare _ _ (bodies ss))) (Dead at))))

  bare_rolled : (x : Layer) → judged_kind i' (bare_stmt_kind (roll-StmtKind x)) ≡ bare_layer x
  bare_rolled x =
      ap (judged_kind i') (bare_kind-roll x)
      ∙ fold-roll-StmtKind (ℕ → Judged) Judged (kind_step i') (stmt_step i') (bare_kind_layer (bare_below x))

  rolled : (x : Layer) → judged_kind i (roll-StmtKind x) ≡ layer x
  rolled x = fold-roll-StmtKind (ℕ → Judged) Judged (kind_step i) (stmt_step i) x

  kind_roll : (x : Layer) → ((at : ℕ) → SameJudged (bare_layer x 0) (layer x at)) → KindBare (roll-StmtKind x)
  kind_roll x h at = subst₂ (λ (f g : ℕ → Judged). SameJudged (f 0) (g at)) (sym (bare_rolled x)) (sym (rolled x)) (h at)

  at_place : {j' j : Judged} (at : ℕ) → SameJudged j' j → SameJudged (record j' { at = 0 }) (record j { at = at })
  at_place at h = record { at = refl; falls = h.falls; faults = h.faults }

  pub stmt_bare : (s : Stmt) → StmtBare s
  stmt_bare =
      ind-Stmt KindBare StmtBare
      (λ x y is. subst (λ z. KindBare (roll-StmtKind z)) is (kind_roll (trees y) (kind_layer y)))
      (λ x y is.
      subst₂ (λ (a b : Judged). SameJudged a b)
      (sym (ap (judged i') (fold-roll-Stmt StmtKind Stmt bare_kind_step bare_stmt_step x)
      ∙ fold_out-Stmt (ℕ → Judged) Judged (kind_step i') (stmt_step i') (record { at = 0; kind = bare_stmt_kind x.kind })))
      (sym (fold-roll-Stmt (ℕ → Judged) Judged (kind_step i) (stmt_step i) x))
      (at_place x.at (subst (λ z. KindBare z.kind) is y.kind.1 x.at)))

  stmts : (ss : List Stmt) → AllSame (map (judged i') (map bare_stmt ss)) (map (judged i) ss)
  stmts [] = tt
  stmts (s ∷ ss) = (stmt_bare s, stmts ss)

  pub body_falls_bare : (ss : List Stmt) → body_falls i' (map bare_stmt ss) ≡ body_falls i ss
  body_falls_bare ss = falls_bare _ _ (stmts ss)

  pub body_faults_bare : (ss : List Stmt) → Unplaced (body_faults i' (map bare_stmt ss)) (body_faults i ss)
  body_faults_bare ss = list_bare _ _ (stmts ss)
