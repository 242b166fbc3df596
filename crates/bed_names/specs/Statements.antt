-- The faults of statements.
--
-- Targets, operands, places and tests, and the names n, v, p and the operand of `find n, v for a in p` and `walk n, v in p`,
-- see the locals, arguments included, and labels alone. Assertions, hints and the sequence of `find` and `walk` see what
-- `visible` says.
--
-- Dead: a statement follows one that can't fall through, at its first token; or a `join` follows an `if` that can't, at
-- `join`.
-- MissingJoin: both bodies of an `if` fall through and it has no `join`; at `if`.
-- Arity and StackRoom: a call has another number of arguments than its callee, or the callee's frame is greater than the
-- call area; at `call`. Where the callee's signature isn't known there is neither.
--
-- `find n, v for a in p of s as u, t keep A { B }` stands for these statements:
--
--   hint unfold lst at p; n <- p; hint fold lseg(p, n, _) case 1;
--   while n != 0 invariant exists u: seq, t: seq, (binders of A).
--       [s == app(u, t)] * [a notin u] * lseg(p, n, u) * lseg(n, 0, t) * (terms of A) {
--     hint unfold lseg at n; v <- [n]; if v = a { B }
--     v <- [n + 4]; hint fold lseg(v, v, _) case 1; hint fold lseg(n, v, _) case 2;
--     hint append p; n <- v;
--   }
--   hint unfold lseg at n; hint fold lst(p, _) case 1;
--
-- and `walk` for the same without `[a notin u]` and with the statements of B in place of the `if`. So a body of `find` that
-- falls through leaves that `if` without its join, and behind a body of `walk` that can't fall through the next statement is
-- dead; both at the token `find` or `walk`.
use Rattle.std.specs.Prelude.{ℕ, ◌+◌, Bool, true, false, ◌&&◌, ◌||◌, ◌==◌, nat_lt, not, List, [], ◌∷◌, ◌++◌, map, length, Option, None, Some, bytes_eq}
use Rattle.bed_lang.specs.declared.word.Name.{Name}
use Rattle.bed_lang.specs.declared.word.Seq.{Seq}
use Rattle.bed_lang.specs.declared.logic.Assertion.{Assertion}
use Rattle.bed_lang.specs.declared.module.Operand.{Operand}
use Rattle.bed_lang.specs.declared.module.Operand.TheVariants as operand
use Rattle.bed_lang.specs.declared.module.Place.{Place}
use Rattle.bed_lang.specs.declared.module.Test.{Test}
use Rattle.bed_lang.specs.declared.module.Join.{Join}
use Rattle.bed_lang.specs.declared.module.Hint.{Hint}
use Rattle.bed_lang.specs.declared.module.Signature.{Signature}
use Rattle.bed_lang.specs.declared.statement.Stmt.{Stmt, Stmt-F, fold-Stmt}
use Rattle.bed_lang.specs.declared.statement.StmtKind.{StmtKind, StmtKind-F, fold-StmtKind}
use Rattle.bed_lang.specs.declared.condition.Decls.{Decls}
use Rattle.bed_names.specs.declared.error.NameError.{NameError}
use Rattle.bed_names.specs.declared.error.NameError.TheVariants.{Twice, Unknown, Arity, Dead, MissingJoin, StackRoom}
use Rattle.bed_names.specs.Faults.{fault_if, all_faults}
use Rattle.bed_lang.specs.Lookups.{signature_named, function_signature}
use Rattle.bed_names.specs.Names.{is_among, sequences}
use Rattle.bed_names.specs.Terms.{Visible, with_names, label_faults, signature_name_faults, seq_faults, twice_faults, assertion_faults, hint_faults, hints_faults}

-- what the statements of a function see: what its assertions and hints may name; its locals, the arguments first; and how many
-- words the call area has, where its signature is known
pub record Surroundings : Type 0 where
  pub visible : Visible
  pub locals : List Name
  pub area : Option ℕ

-- a signature's frame: the return address, the arguments and the reserved words
abbrev pub frame : Signature → ℕ
frame s = 1 + length s.params + s.reserve

-- the signature of a callee: of `via N` the one named N, of `&f` that of f
abbrev pub callee : Decls → Operand → Option Name → Option Signature
callee d target (Some x) = signature_named d x.bytes
callee d (operand.Label f) None = function_signature d f
callee d target None = None

abbrev pub room_faults : Option ℕ → ℕ → ℕ → List NameError
room_faults None needs at = []
room_faults (Some has) needs at = fault_if (nat_lt has needs) (StackRoom at needs has)

abbrev pub callee_faults : Option ℕ → Option Signature → List Operand → ℕ → List NameError
callee_faults area None args at = []
callee_faults area (Some s) args at = fault_if (not (length s.params == length args)) (Arity at) ++ room_faults area (frame s) at

-- the names of two operands are one local
abbrev pub is_local : Operand → Name → Bool
is_local (operand.Local y) x = bytes_eq x.bytes y.bytes
is_local _ x = false

-- the place of an operand that is a name
abbrev pub operand_place : Operand → ℕ
operand_place (operand.Number n) = 0
operand_place (operand.Local x) = x.at
operand_place (operand.Label f) = f.at

module _ (i : Surroundings) where
  abbrev pub local_faults : Name → List NameError
  local_faults x = fault_if (not (is_among i.locals x)) (Unknown x.at)

  abbrev pub operand_faults : Operand → List NameError
  operand_faults (operand.Number n) = []
  operand_faults (operand.Local x) = local_faults x
  operand_faults (operand.Label f) = label_faults i.visible f

  abbrev pub operands_faults : List Operand → List NameError
  operands_faults args = all_faults operand_faults args

  abbrev pub test_faults : Test → List NameError
  test_faults t = operand_faults t.left ++ operand_faults t.right

  abbrev pub via_faults : Option Name → List NameError
  via_faults None = []
  via_faults (Some x) = signature_name_faults i.visible x

  -- x <- a, x <- [a + k]
  abbrev pub assign_faults : Name → Operand → List NameError
  assign_faults x a = local_faults x ++ operand_faults a

  -- x <- a op b
  abbrev pub compute_faults : Name → Operand → Operand → List NameError
  compute_faults x a b = assign_faults x a ++ operand_faults b

  -- [p + k] <- a
  abbrev pub move_faults : Place → Operand → List NameError
  move_faults p a = operand_faults p.base ++ operand_faults a

  abbrev pub call_head_faults : ℕ → Name → Operand → Option Name → List Operand → List NameError
  call_head_faults at into target via args =
      local_faults into ++ (callee_faults i.area (callee i.visible.decls target via) args at
      ++ (operand_faults target ++ (via_faults via ++ operands_faults args)))

  abbrev pub call_faults : ℕ → Name → Operand → Option Name → List Operand → List Hint → Assertion → List NameError
  call_faults at into target via args hints after =
      call_head_faults at into target via args ++ (hints_faults i.visible hints ++ assertion_faults i.visible after)

  -- u and t are in scope in A alone, as sequences, in one list with its binders
  abbrev pub keep_faults : Name → Name → Assertion → List NameError
  keep_faults u t a =
      twice_faults i.visible.names (u ∷ t ∷ [])
      ++ assertion_faults (with_names i.visible (sequences (u ∷ t ∷ []))) a

  -- a local that is named twice, or isn't
  abbrev pub other_local_faults : Bool → Name → List NameError
  other_local_faults twice x = fault_if twice (Twice x.at) ++ local_faults x

  abbrev pub key_faults : Bool → Operand → List NameError
  key_faults twice a = fault_if twice (Twice (operand_place a)) ++ operand_faults a

  abbrev pub list_keep_faults : Bool → Name → Seq → Name → Name → Assertion → List NameError
  list_keep_faults twice p s u t keep = other_local_faults twice p ++ (seq_faults i.visible s ++ keep_faults u t keep)

  -- two of n, v, a and p are one local: the second of them is named twice
  abbrev pub find_faults : Name → Name → Operand → Name → Seq → Name → Name → Assertion → List NameError
  find_faults n v a p s u t keep =
      local_faults n
      ++ (other_local_faults (bytes_eq v.bytes n.bytes) v
      ++ (key_faults (is_local a n || is_local a v) a
      ++ list_keep_faults (bytes_eq p.bytes n.bytes || (bytes_eq p.bytes v.bytes || is_local a p)) p s u t keep))

  abbrev pub walk_faults : Name → Name → Name → Seq → Name → Name → Assertion → List NameError
  walk_faults n v p s u t keep =
      local_faults n
      ++ (other_local_faults (bytes_eq v.bytes n.bytes) v
      ++ list_keep_faults (bytes_eq p.bytes n.bytes || bytes_eq p.bytes v.bytes) p s u t keep)

-- what the rules need of a statement: its place, whether it falls through, and its faults
pub record Judged : Type 0 where
  pub at : ℕ
  pub falls : Bool
  pub faults : List NameError

-- a list of statements falls through unless its last statement can't
abbrev pub falls_after : Bool → List Judged → Bool
falls_after falls [] = falls
falls_after falls (s ∷ ss) = falls_after s.falls ss

abbrev pub falls_through : List Judged → Bool
falls_through ss = falls_after true ss

-- the faults of the statements of a list, and those that stand right behind one that can't fall through
abbrev pub faults_after : Bool → List Judged → List NameError
faults_after falls [] = []
faults_after falls (s ∷ ss) = fault_if (not falls) (Dead s.at) ++ (s.faults ++ faults_after s.falls ss)

abbrev pub list_faults : List Judged → List NameError
list_faults ss = faults_after true ss

-- a statement that falls through, with its faults
abbrev pub straight : ℕ → List NameError → Judged
straight at faults = record { at = at; falls = true; faults = faults }

-- an `if`, of which a body falls through or none does
abbrev pub join_faults : Visible → ℕ → Bool → Bool → Option Join → List NameError
join_faults v at yes_falls no_falls None = fault_if (yes_falls && no_falls) (MissingJoin at)
join_faults v at yes_falls no_falls (Some j) = fault_if (not (yes_falls || no_falls)) (Dead j.place) ++ assertion_faults v j.assertion

module _ (i : Surroundings) where
  -- what a kind of statement is at a place
  abbrev pub kind_step : StmtKind-F (ℕ → Judged) Judged → ℕ → Judged
  kind_step (StmtKind-F.Assign x a) at = straight at (assign_faults i x a)
  kind_step (StmtKind-F.Compute x op a b) at = straight at (compute_faults i x a b)
  kind_step (StmtKind-F.Load x p) at = straight at (assign_faults i x p.base)
  kind_step (StmtKind-F.LoadByte x p) at = straight at (assign_faults i x p.base)
  kind_step (StmtKind-F.Store p a) at = straight at (move_faults i p a)
  kind_step (StmtKind-F.StoreByte p a) at = straight at (move_faults i p a)
  kind_step (StmtKind-F.Call place into target via args hints after) at =
      straight at (call_faults i place into target via args hints after)
  kind_step (StmtKind-F.If test ys ns join) at = record {
    at = at;
    falls = falls_through ys || falls_through ns;
    faults = test_faults i test ++ (list_faults ys
        ++ (list_faults ns ++ join_faults i.visible at (falls_through ys) (falls_through ns) join));
  }
  kind_step (StmtKind-F.While test place invariant' body) at =
      straight at (test_faults i test ++ (assertion_faults i.visible invariant' ++ list_faults body))
  kind_step (StmtKind-F.Return a) at = record { at = at; falls = false; faults = operand_faults i a }
  kind_step (StmtKind-F.Hint h) at = straight at (hint_faults i.visible h)
  kind_step (StmtKind-F.Find n v a p s u t keep body) at =
      straight at (find_faults i n v a p s u t keep ++ (list_faults body ++ fault_if (falls_through body) (MissingJoin at)))
  kind_step (StmtKind-F.Walk n v p s u t keep body) at =
      straight at (walk_faults i n v p s u t keep ++ (list_faults body ++ fault_if (not (falls_through body)) (Dead at)))

  abbrev pub stmt_step : Stmt-F (ℕ → Judged) Judged → Judged
  stmt_step s = record (s.kind s.at) { at = s.at }

  abbrev pub judged_kind : StmtKind → ℕ → Judged
  judged_kind = fold-StmtKind (ℕ → Judged) Judged kind_step stmt_step

  abbrev pub judged : Stmt → Judged
  judged = fold-Stmt (ℕ → Judged) Judged kind_step stmt_step

  abbrev pub body_falls : List Stmt → Bool
  body_falls body = falls_through (map judged body)

  abbrev pub body_faults : List Stmt → List NameError
  body_faults body = list_faults (map judged body)
