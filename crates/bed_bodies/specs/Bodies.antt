-- The blocks of bodies, put together from those of their statements.
use Rattle.std.specs.Prelude.{ℕ, ◌+◌, Bool, true, false, ◌||◌, Option, Some, None, List, [], ◌∷◌, ◌++◌, map}
use Rattle.bed_lang.specs.declared.word.Name.{Name}
use Rattle.bed_lang.specs.declared.logic.Assertion.{Assertion}
use Rattle.bed_lang.specs.declared.module.Operand.{Operand}
use Rattle.bed_lang.specs.declared.module.Join.{Join}
use Rattle.bed_lang.specs.declared.module.Test.{Test}
use Rattle.bed_lang.specs.declared.statement.Stmt.{Stmt, Stmt-F, fold-Stmt}
use Rattle.bed_lang.specs.declared.statement.StmtKind.{StmtKind, StmtKind-F, fold-StmtKind}
use Rattle.bed_il.specs.declared.blocks.Block.{Block}
use Rattle.bed_laws.specs.Keeps.{LoopHead}
use Rattle.bed_laws.specs.StatementBlocks.{assign_block, compute_block, load_block, load_byte_block, store_block, store_byte_block, return_block, call_blocks, empty_block, jump_count, choice_blocks, loop_blocks}
use Rattle.bed_bodies.specs.Demands.{Demand, Assigned, Read, Room, Falls, StopsOnce, WrittenOut}

-- a part of a body: how many labels it has, whether control comes to its end, its blocks in a function with these locals from a first label
-- on to a next one, the heads of its loops from a first label on, and what it asks of the function
pub record Built : Type 0 where
  pub count : ℕ
  pub falls : Bool
  pub code : List Name → ℕ → ℕ → List Block
  pub heads : ℕ → List LoopHead
  pub demands : List Demand

-- one block that falls on
abbrev pub row : (List Name → ℕ → ℕ → Block) → List Demand → Built
row block demands = record { count = 1; falls = true; code = λ locals first next. block locals first next ∷ []; heads = λ first. []; demands = demands }

-- demands of two parts
abbrev pub all : List Demand → List Demand → List Demand
all xs ys = xs ++ ys

-- no statement
abbrev pub nothing : Built
nothing = row (λ locals first next. empty_block first next) []

-- one part and then another
abbrev pub followed : Built → Built → Built
followed a b = record {
  count = a.count + b.count;
  falls = b.falls;
  code = λ locals first next. a.code locals first (first + a.count) ++ b.code locals (first + a.count) next;
  heads = λ first. a.heads first ++ b.heads (first + a.count);
  demands = Falls a.falls ∷ (a.demands ++ b.demands);
}

-- parts in a row
abbrev pub in_row : Built → List Built → Built
in_row a [] = a
in_row a (b ∷ bs) = followed a (in_row b bs)

abbrev pub listed : List Built → Built
listed [] = nothing
listed (a ∷ as') = in_row a as'

-- the operands of a call
abbrev pub reads : List Operand → List Demand
reads [] = []
reads (a ∷ as') = Read a ∷ reads as'

-- without a join one of the bodies stops
abbrev pub stops : Option Join → Bool → Bool → List Demand
stops (Some j) f g = []
stops None f g = StopsOnce f g ∷ []

abbrev pub answered : Operand → Built
answered a = record { count = 1; falls = false; code = λ locals first next. return_block locals a first ∷ []; heads = λ first. []; demands = Read a ∷ [] }

abbrev pub called : Name → Operand → Option Name → List Operand → Built
called x target via args = record {
  count = 2;
  falls = true;
  code = λ locals first next. call_blocks locals x target args first next;
  heads = λ first. [];
  demands = Assigned x ∷ Read target ∷ Room target via ∷ reads args;
}

abbrev pub chosen : Test → Built → Built → Option Join → Built
chosen t y n join = record {
  count = 1 + y.count + jump_count y.falls + n.count;
  falls = y.falls || n.falls;
  code = λ locals first next. choice_blocks y.falls locals t y.count first next (y.code locals) (n.code locals);
  heads = λ first. y.heads (first + 1) ++ n.heads (first + 1 + y.count + jump_count y.falls);
  demands = Read t.left ∷ Read t.right ∷ (stops join y.falls n.falls ++ (y.demands ++ n.demands));
}

abbrev pub looped : Test → Assertion → Built → Built
looped t I b = record {
  count = 1 + b.count + jump_count b.falls;
  falls = true;
  code = λ locals first next. loop_blocks b.falls locals t b.count first next (b.code locals);
  heads = λ first. record { label = first; invariant = I } ∷ b.heads (first + 1);
  demands = Read t.left ∷ Read t.right ∷ b.demands;
}

-- each kind of statement; `find` and `walk` are written out before
abbrev pub kind_step : StmtKind-F Built Built → Built
kind_step (StmtKind-F.Assign x a) = row (λ locals first next. assign_block locals x a first next) (Assigned x ∷ Read a ∷ [])
kind_step (StmtKind-F.Compute x op a b) = row (λ locals first next. compute_block locals x op a b first next) (Assigned x ∷ Read a ∷ Read b ∷ [])
kind_step (StmtKind-F.Load x p) = row (λ locals first next. load_block locals x p first next) (Assigned x ∷ Read p.base ∷ [])
kind_step (StmtKind-F.LoadByte x p) = row (λ locals first next. load_byte_block locals x p first next) (Assigned x ∷ Read p.base ∷ [])
kind_step (StmtKind-F.Store p a) = row (λ locals first next. store_block locals p a first next) (Read p.base ∷ Read a ∷ [])
kind_step (StmtKind-F.StoreByte p a) = row (λ locals first next. store_byte_block locals p a first next) (Read p.base ∷ Read a ∷ [])
kind_step (StmtKind-F.Call place into target via args hints after) = called into target via args
kind_step (StmtKind-F.If test ys ns join) = chosen test (listed ys) (listed ns) join
kind_step (StmtKind-F.While test place invariant body) = looped test invariant (listed body)
kind_step (StmtKind-F.Return a) = answered a
kind_step (StmtKind-F.Hint h) = nothing
kind_step (StmtKind-F.Find n v a p s u t keep body) = record nothing { demands = WrittenOut ∷ [] }
kind_step (StmtKind-F.Walk n v p s u t keep body) = record nothing { demands = WrittenOut ∷ [] }

abbrev pub statement_step : Stmt-F Built Built → Built
statement_step s = s.kind

abbrev pub kind_built : StmtKind → Built
kind_built = fold-StmtKind Built Built kind_step statement_step

abbrev pub statement_built : Stmt → Built
statement_built = fold-Stmt Built Built kind_step statement_step

abbrev pub body_built : List Stmt → Built
body_built body = listed (map statement_built body)
