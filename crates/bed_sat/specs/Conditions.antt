-- The conditions that the text of a module owes: for each goal in it the one path of actions, tests and hints that leads there
-- from the last annotated point (after Bedrock's verification conditions).
--
-- A path starts at an annotated point: the entry with the precondition, a `join`, a loop's head with its invariant, or the point
-- after a call with its `after` assertion. Conditions stand in the order in which a walk of the text meets their goals, a loop's
-- back edge at the end of its body and a join's goal at the end of each body that falls through. The place of a condition is
-- the first token of its `return` or call statement, or the token `join` or `invariant`. In the text `find` and `walk` are written
-- out first; what is made for them stands at the token `find` or `walk`. What a path makes of them is what it makes of the
-- statements that they stand for: a law says so.
use Rattle.std.specs.Prelude.{ℕ, ◌+◌, Bool, true, false, Option, Some, None, option_map, option_and_then, List, [], ◌∷◌, ◌++◌, map, length, flat_map, codes}
use Rattle.std.specs.Option.{option_or}
use Rattle.bed_lang.specs.declared.word.Name.{Name}
use Rattle.bed_lang.specs.declared.logic.Assertion.{Assertion}
use Rattle.bed_lang.specs.declared.module.Operand.{Operand}
use Rattle.bed_lang.specs.declared.module.Operand.TheVariants.{Local}
use Rattle.bed_lang.specs.declared.module.Rel.{Rel}
use Rattle.bed_lang.specs.declared.module.Rel.TheVariants.{Equal, Unequal, Less, AtMost}
use Rattle.bed_lang.specs.declared.module.Test.{Test}
use Rattle.bed_lang.specs.declared.module.Hint.{Hint}
use Rattle.bed_lang.specs.declared.module.Hint.TheVariants.{Append}
use Rattle.bed_lang.specs.declared.module.Join.{Join}
use Rattle.bed_lang.specs.declared.module.Signature.{Signature}
use Rattle.bed_lang.specs.declared.module.Function.{Function}
use Rattle.bed_lang.specs.declared.module.Module.{Module}
use Rattle.bed_lang.specs.declared.module.Action.{Action}
use Rattle.bed_lang.specs.declared.module.Action.TheVariants as action
use Rattle.bed_lang.specs.declared.condition.Goal.{Goal}
use Rattle.bed_lang.specs.declared.condition.Goal.TheVariants.{Meets, Calls, Returns}
use Rattle.bed_lang.specs.declared.condition.Placed.{Placed}
use Rattle.bed_lang.specs.declared.condition.Cond.{Cond}
use Rattle.bed_lang.specs.declared.statement.Stmt.{Stmt, Stmt-F, fold-Stmt}
use Rattle.bed_lang.specs.declared.statement.StmtKind.{StmtKind, StmtKind-F, fold-StmtKind}
use Rattle.bed_lang.specs.Lookups.{first_signature}
use Rattle.bed_table.specs.Code.{locals_of}
use Rattle.bed_table.specs.ListLoops.{word_named, list_invariant, not_yet, not_null, is_key, field_at}
use Rattle.bed_sat.specs.Written.{unfold_at, fold_segment, fold_list, made_test, written}

-- a path from an annotated point: whether that is the entry, what holds there, and the actions and hints since then
pub record Path : Type 0 where
  pub entry : Bool
  pub start : Assertion
  pub actions : List Action
  pub hints : List Placed

-- the path that starts at an inner point
abbrev pub path_from : Assertion → Path
path_from A = record { entry = false; start = A; actions = []; hints = [] }

-- one more action
abbrev pub then_action : Action → Path → Path
then_action a p = record p { actions = p.actions ++ a ∷ [] }

-- a hint before an action of this number, from 0
abbrev pub placed : ℕ → Hint → Placed
placed number h = record { before = number; hint = h }

-- one more hint: the action that follows it, or the goal, has the number of the actions so far
abbrev pub then_hint : Hint → Path → Path
then_hint h p = record p { hints = p.hints ++ placed (length p.actions) h ∷ [] }

-- the hints `using` of a call have one more than the goal
abbrev pub then_using : List Hint → Path → Path
then_using hs p = record p { hints = p.hints ++ map (placed (1 + length p.actions)) hs }

-- the test that is true exactly where this one is false: a < b gives b <= a, and a <= b gives b < a
abbrev pub turned : Rel → ℕ → Operand → Operand → Test
turned Equal at a b = record { at = at; rel = Unequal; left = a; right = b }
turned Unequal at a b = record { at = at; rel = Equal; left = a; right = b }
turned Less at a b = record { at = at; rel = AtMost; left = b; right = a }
turned AtMost at a b = record { at = at; rel = Less; left = b; right = a }

abbrev pub negated : Test → Test
negated t = turned t.rel t.at t.left t.right

-- the path on which a test is true, or false
abbrev pub where_true : Test → Path → Path
where_true t p = then_action (action.Assume t) p

abbrev pub where_false : Test → Path → Path
where_false t p = then_action (action.Assume (negated t)) p

-- a function of a module, with its locals, the arguments first
pub record Site : Type 0 where
  pub «module» : Name
  pub function : Name
  pub locals : List Name

-- What a part of a body makes of the path that comes to it:
--   goes_on: the path that leaves it, where control comes to its end;
--   owes: the conditions of the goals in it.
pub record Part : Type 0 where
  pub goes_on : Path → Option Path
  pub owes : Path → List Cond

-- a part that each path leaves, and that owes nothing
abbrev pub straight : (Path → Path) → Part
straight f = record { goes_on = λ p. Some (f p); owes = λ p. [] }

-- an action, and a hint
abbrev pub acted : Action → Part
acted a = straight (then_action a)

abbrev pub hinted : Hint → Part
hinted h = straight (then_hint h)

-- what a part owes for the path that comes to it, if one does
abbrev pub owed_from : Option Path → Part → List Cond
owed_from None part = []
owed_from (Some p) part = part.owes p

-- parts one after the other: no path comes to what stands after a part that none leaves
abbrev pub in_order : List Part → Part
in_order [] = straight (λ p. p)
in_order (part ∷ parts) = record {
  goes_on = λ p. option_and_then (in_order parts).goes_on (part.goes_on p);
  owes = λ p. part.owes p ++ owed_from (part.goes_on p) (in_order parts);
}

-- a statement is what its kind is at its place
abbrev pub part_step : Stmt-F (ℕ → Part) Part → Part
part_step s = s.kind s.at

module _ (site : Site) where
  -- the condition of a path that comes to a goal at a place
  abbrev pub condition : ℕ → Goal → Path → Cond
  condition place goal p = record {
    «module» = site.«module»;
    function = site.function;
    at = place;
    locals = site.locals;
    entry = p.entry;
    start = p.start;
    actions = p.actions;
    goal = goal;
    hints = p.hints;
  }

  -- an assertion has to be met at the end of a path, if there is one
  abbrev pub met : ℕ → Assertion → Option Path → List Cond
  met place A None = []
  met place A (Some p) = condition place (Meets A) p ∷ []

  -- what a body owes for a path, and that an assertion is met where it falls through
  abbrev pub owed_up_to : ℕ → Assertion → Part → Path → List Cond
  owed_up_to place A body p = body.owes p ++ met place A (body.goes_on p)

  -- return a: the path ends
  abbrev pub answer : ℕ → Operand → Part
  answer at a = record { goes_on = λ p. None; owes = λ p. condition at (Returns a) p ∷ [] }

  -- x <- call t(args) using hints after A: the path ends, and a new one starts from A
  abbrev pub call : ℕ → Name → Operand → Option Name → List Operand → List Hint → Assertion → Part
  call at into target via args hints after = record {
    goes_on = λ p. Some (path_from after);
    owes = λ p. condition at (Calls target via args into after) (then_using hints p) ∷ [];
  }

  -- while t invariant A { body }: the path ends, and new ones start from A: one with the test goes through the body and ends
  -- where that falls through, and one with the negated test goes on
  abbrev pub loop : Test → ℕ → Assertion → Part → Part
  loop t place A body = record {
    goes_on = λ p. Some (where_false t (path_from A));
    owes = λ p. condition place (Meets A) p ∷ owed_up_to place A body (where_true t (path_from A));
  }

  -- if t { yes } else { no } join A: the path goes through both bodies, and a new one starts from A where one of them falls
  -- through. Without a join the path of the body that falls through goes on; of two that do (a join is missing), the first.
  abbrev pub choice : Test → Part → Part → Option Join → Part
  choice t yes_part no_part (Some j) = record {
    goes_on = λ p. option_map (λ q. path_from j.assertion) (option_or (yes_part.goes_on (where_true t p)) (no_part.goes_on (where_false t p)));
    owes = λ p. owed_up_to j.place j.assertion yes_part (where_true t p) ++ owed_up_to j.place j.assertion no_part (where_false t p);
  }
  choice t yes_part no_part None = record {
    goes_on = λ p. option_or (yes_part.goes_on (where_true t p)) (no_part.goes_on (where_false t p));
    owes = λ p. yes_part.owes (where_true t p) ++ no_part.owes (where_false t p);
  }

  -- find and walk at a place, by their invariant and by what is done at a node: the parts of the statements that they stand for
  abbrev pub list_loop : ℕ → Name → Name → Name → Assertion → Part → Part
  list_loop at n v p invariant visit =
      in_order (
      hinted (unfold_at (codes "lst") p) ∷ acted (action.Assign n (Local p)) ∷ hinted (fold_segment p n 1)
      ∷ loop (made_test at (not_null n)) at invariant (in_order (
      hinted (unfold_at (codes "lseg") n) ∷ acted (action.Load v (field_at n 0)) ∷ visit
      ∷ acted (action.Load v (field_at n 4)) ∷ hinted (fold_segment v v 1) ∷ hinted (fold_segment n v 2)
      ∷ hinted (Append (word_named p)) ∷ acted (action.Assign n (Local v)) ∷ []
      ))
      ∷ hinted (unfold_at (codes "lseg") n) ∷ hinted (fold_list p) ∷ []
      )

  -- each kind of statement at a place
  abbrev pub kind_part_step : StmtKind-F (ℕ → Part) Part → ℕ → Part
  kind_part_step (StmtKind-F.Assign x a) at = acted (action.Assign x a)
  kind_part_step (StmtKind-F.Compute x op a b) at = acted (action.Compute x op a b)
  kind_part_step (StmtKind-F.Load x p) at = acted (action.Load x p)
  kind_part_step (StmtKind-F.LoadByte x p) at = acted (action.LoadByte x p)
  kind_part_step (StmtKind-F.Store p a) at = acted (action.Store p a)
  kind_part_step (StmtKind-F.StoreByte p a) at = acted (action.StoreByte p a)
  kind_part_step (StmtKind-F.Call place into target via args hints after) at = call at into target via args hints after
  kind_part_step (StmtKind-F.If test ys ns join) at = choice test (in_order ys) (in_order ns) join
  kind_part_step (StmtKind-F.While test place invariant body) at = loop test place invariant (in_order body)
  kind_part_step (StmtKind-F.Return a) at = answer at a
  kind_part_step (StmtKind-F.Hint h) at = hinted h
  kind_part_step (StmtKind-F.Find n v a p s u t keep body) at =
      list_loop at n v p (list_invariant n p s u t (not_yet a u) keep) (choice (made_test at (is_key v a)) (in_order body) (in_order []) None)
  kind_part_step (StmtKind-F.Walk n v p s u t keep body) at = list_loop at n v p (list_invariant n p s u t [] keep) (in_order body)

  abbrev pub kind_part : StmtKind → ℕ → Part
  kind_part = fold-StmtKind (ℕ → Part) Part kind_part_step part_step

  abbrev pub statement_part : Stmt → Part
  statement_part = fold-Stmt (ℕ → Part) Part kind_part_step part_step

  abbrev pub body_part : List Stmt → Part
  body_part body = in_order (map statement_part body)

-- the path at the entry of a function: it starts from the precondition, and from `emp` where the signature isn't declared
abbrev pub path_at_entry : Option Signature → Path
path_at_entry (Some S) = record { entry = true; start = S.pre; actions = []; hints = [] }
path_at_entry None = record { entry = true; start = record { at = 0; binders = []; terms = [] }; actions = []; hints = [] }

abbrev pub site_of : Module → Function → Site
site_of m f = record { «module» = m.name; function = f.name; locals = locals_of m.signatures f }

-- the conditions of a function
abbrev pub function_conditions : Module → Function → List Cond
function_conditions m f = (body_part (site_of m f) (written f.body)).owes (path_at_entry (first_signature m.signatures f.signature.bytes))

-- the conditions of a module, and of modules in their order; condition k of a command, from 1, is the k-th of its modules
abbrev pub conditions : Module → List Cond
conditions m = flat_map (function_conditions m) m.functions

abbrev pub all_conditions : List Module → List Cond
all_conditions modules = flat_map conditions modules
