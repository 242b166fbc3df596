-- Blocks of bodies lower the frame's address by a word.
use Rattle.std.proofs.Common.{ℕ, zero, suc, ◌+◌, ◌<◌, Bool, true, false, Option, List, [], ◌∷◌, ◌++◌, map, Contains, sym, subst, arith}
use Rattle.bed_machine.proofs.WordLaws.{wrap_lt}
use Rattle.bed_lang.specs.declared.word.Name.{Name}
use Rattle.bed_lang.specs.declared.logic.Assertion.{Assertion}
use Rattle.bed_lang.specs.declared.module.Operand.{Operand}
use Rattle.bed_lang.specs.declared.module.Join.{Join}
use Rattle.bed_lang.specs.declared.module.Test.{Test}
use Rattle.bed_lang.specs.declared.statement.Stmt.{Stmt, ind-Stmt, fold-roll-Stmt}
use Rattle.bed_lang.specs.declared.statement.StmtKind.{StmtKind, StmtKind-F, map-StmtKind, fold-roll-StmtKind}
use Rattle.bed_il.specs.declared.blocks.Inst.{Inst}
use Rattle.bed_il.specs.declared.blocks.Inst.TheVariants.{LowerSp}
use Rattle.bed_il.specs.declared.blocks.Block.{Block}
use Rattle.bed_laws.specs.StatementBlocks.{argument_insts, leave_insts, going_if, jump_count}
use Rattle.bed_bodies.specs.Bodies.{Built, nothing, followed, in_row, chosen, looped, kind_step, statement_step, kind_built, statement_built, body_built}
use Rattle.bed_bodies.specs.Functions.{function_blocks, end_of}

-- ---- instructions and blocks

abbrev IsSmall : Inst → Type 0
IsSmall (LowerSp n) = n < 4294967296
IsSmall _ = Unit {0}

abbrev AreSmall : List Inst → Type 0
AreSmall [] = Unit {0}
AreSmall (i ∷ is) = IsSmall i × AreSmall is

abbrev AllSmall : List Block → Type 0
AllSmall [] = Unit {0}
AllSmall (b ∷ bs) = AreSmall b.insts × AllSmall bs

inst_at : (is : List Inst) → AreSmall is → (n : ℕ) → Contains is (LowerSp n) → n < 4294967296
inst_at [] s n (k, lt, e) = absurd (omega arith)
inst_at (i ∷ is) s n (zero, lt, e) = subst IsSmall e s.0
inst_at (i ∷ is) s n (suc k, lt, e) = inst_at is s.1 n (k, omega arith, e)

block_at : (bs : List Block) → AllSmall bs → (b : Block) → Contains bs b → AreSmall b.insts
block_at [] s b (k, lt, e) = absurd (omega arith)
block_at (x ∷ bs) s b (zero, lt, e) = subst (λ (y : Block). AreSmall y.insts) e s.0
block_at (x ∷ bs) s b (suc k, lt, e) = block_at bs s.1 b (k, omega arith, e)

small_append : (xs ys : List Block) → AllSmall xs → AllSmall ys → AllSmall (xs ++ ys)
small_append [] ys a b = b
small_append (x ∷ xs) ys a b = (a.0, small_append xs ys a.1 b)

insts_append : (xs ys : List Inst) → AreSmall xs → AreSmall ys → AreSmall (xs ++ ys)
insts_append [] ys a b = b
insts_append (x ∷ xs) ys a b = (a.0, insts_append xs ys a.1 b)

arguments_small : (locals : List Name) (i : ℕ) (args : List Operand) → AreSmall (argument_insts locals i args)
arguments_small locals i [] = tt
arguments_small locals i (a ∷ more) = (tt, (tt, arguments_small locals (1 + i) more))

going_small : (falls : Bool) (label to : ℕ) → AllSmall (going_if falls label to)
going_small true label to = (tt, tt)
going_small false label to = tt

-- ---- bodies

abbrev Small : Built → Type 0
Small b = (locals : List Name) (first next : ℕ) → AllSmall (b.code locals first next)

followed_small : (a b : Built) → Small a → Small b → Small (followed a b)
followed_small a b sa sb locals first next =
    small_append (a.code locals first (first + a.count)) (b.code locals (first + a.count) next) (sa locals first (first + a.count)) (sb locals (first + a.count) next)

chosen_small : (t : Test) (y n : Built) (join : Option Join) → Small y → Small n → Small (chosen t y n join)
chosen_small t y n join sy sn locals first next =
    let other = first + 1 + y.count + jump_count y.falls in (
      (tt, (tt, tt)),
      small_append (y.code locals (first + 1) (first + 1 + y.count)) (going_if y.falls (first + 1 + y.count) next ++ n.code locals other next) (sy locals (first + 1) (first + 1 + y.count))
          (small_append (going_if y.falls (first + 1 + y.count) next) (n.code locals other next) (going_small y.falls (first + 1 + y.count) next) (sn locals other next)),
    )

looped_small : (t : Test) (I : Assertion) (b : Built) → Small b → Small (looped t I b)
looped_small t I b sb locals first next =
    ((tt, (tt, tt)), small_append (b.code locals (first + 1) _) (going_if b.falls (first + 1 + b.count) first) (sb locals (first + 1) _) (going_small b.falls (first + 1 + b.count) first))

abbrev KindSmall : StmtKind → Type 0
KindSmall k = Small (kind_built k)

abbrev StatementSmall : Stmt → Type 0
StatementSmall s = Small (statement_built s)

abbrev of_list : List ((s : Stmt) × StatementSmall s) → List Stmt
of_list ss = map (λ s. s.0) ss

nothing_small : Small nothing
nothing_small locals first next = (tt, tt)

row_small : (s : (s : Stmt) × StatementSmall s) (ss : List ((s : Stmt) × StatementSmall s)) → Small (in_row (statement_built s.0) (map statement_built (of_list ss)))
row_small s [] = s.1
row_small s (t ∷ ss) = followed_small (statement_built s.0) (in_row (statement_built t.0) (map statement_built (of_list ss))) s.1 (row_small t ss)

list_small : (ss : List ((s : Stmt) × StatementSmall s)) → Small (body_built (of_list ss))
list_small [] = nothing_small
list_small (s ∷ ss) = row_small s ss

layer : (y : StmtKind-F ((k : StmtKind) × KindSmall k) ((s : Stmt) × StatementSmall s))
    → Small (kind_step (map-StmtKind _ _ _ _ kind_built statement_built (map-StmtKind _ _ _ _ (λ e. e.0) (λ e. e.0) y)))
layer (StmtKind-F.Assign x a) = λ locals first next. ((tt, (tt, tt)), tt)
layer (StmtKind-F.Compute x op a b) = λ locals first next. ((tt, (tt, (tt, (tt, tt)))), tt)
layer (StmtKind-F.Load x p) = λ locals first next. ((tt, (tt, (tt, tt))), tt)
layer (StmtKind-F.LoadByte x p) = λ locals first next. ((tt, (tt, (tt, tt))), tt)
layer (StmtKind-F.Store p a) = λ locals first next. ((tt, (tt, (tt, tt))), tt)
layer (StmtKind-F.StoreByte p a) = λ locals first next. ((tt, (tt, (tt, tt))), tt)
layer (StmtKind-F.Call place x target via args hints after) =
    λ locals first next. (insts_append (argument_insts locals 0 args) (leave_insts locals target (first + 1)) (arguments_small locals 0 args) (tt, (tt, (tt, tt))), ((wrap_lt _, (tt, tt)), tt))
layer (StmtKind-F.If test ys ns join) = chosen_small test (body_built (of_list ys)) (body_built (of_list ns)) join (list_small ys) (list_small ns)
layer (StmtKind-F.While test place invariant body) = looped_small test invariant (body_built (of_list body)) (list_small body)
layer (StmtKind-F.Return a) = λ locals first next. ((tt, (tt, (tt, tt))), tt)
layer (StmtKind-F.Hint h) = nothing_small
layer (StmtKind-F.Find n v a p s u t keep body) = nothing_small
layer (StmtKind-F.Walk n v p s u t keep body) = nothing_small

every_small : (s : Stmt) → StatementSmall s
every_small =
    ind-Stmt KindSmall StatementSmall
    (λ x y is.
    subst Small (sym (fold-roll-StmtKind Built Built kind_step statement_step x))
    (subst (λ z. Small (kind_step (map-StmtKind _ _ _ _ kind_built statement_built z))) is (layer y)))
    (λ x y is.
    subst Small (sym (fold-roll-Stmt Built Built kind_step statement_step x))
    (subst (λ z. Small (kind_built z.kind)) is y.kind.1))

first_small : (s : Stmt) (ss : List Stmt) → Small (in_row (statement_built s) (map statement_built ss))
first_small s [] = every_small s
first_small s (t ∷ ss) = followed_small (statement_built s) (in_row (statement_built t) (map statement_built ss)) (every_small s) (first_small t ss)

body_small : (body : List Stmt) → Small (body_built body)
body_small [] = nothing_small
body_small (s ∷ ss) = first_small s ss

-- the blocks of a function
pub lowers_by_words : (locals : List Name) (body : List Stmt) (b : Block) → Contains (function_blocks locals body) b → (n : ℕ) → Contains b.insts (LowerSp n) → n < 4294967296
lowers_by_words locals body b is n at = inst_at b.insts (block_at (function_blocks locals body) ((tt, tt), body_small body locals 1 (end_of body)) b is) n at
