-- The conditions that a `find` and a `walk` owe, in full: their places, starts, actions, goals and hints. A slip in what the two
-- stand for, as another number of a case or an invariant without one of its terms, would make one of these false.
use Rattle.std.specs.Prelude.{◌≡◌, ℕ, true, false, Some, List, [], ◌∷◌, codes}
use Rattle.bed_lang.specs.declared.word.Name.{Name}
use Rattle.bed_lang.specs.declared.word.Sort.TheVariants as sort
use Rattle.bed_lang.specs.declared.word.Var.TheVariants as var
use Rattle.bed_lang.specs.declared.word.Word.{Word, Number, Var as WordVar}
use Rattle.bed_lang.specs.declared.word.Seq.{App, Var as SeqVar}
use Rattle.bed_lang.specs.declared.logic.Arg.{Arg}
use Rattle.bed_lang.specs.declared.logic.Arg.TheVariants as arg
use Rattle.bed_lang.specs.declared.logic.Pure.TheVariants as pure
use Rattle.bed_lang.specs.declared.logic.Term.{Term}
use Rattle.bed_lang.specs.declared.logic.Term.TheVariants as term
use Rattle.bed_lang.specs.declared.logic.Assertion.{Assertion}
use Rattle.bed_lang.specs.declared.module.Operand.{Operand}
use Rattle.bed_lang.specs.declared.module.Operand.TheVariants as operand
use Rattle.bed_lang.specs.declared.module.Op.TheVariants as op
use Rattle.bed_lang.specs.declared.module.Rel.{Rel}
use Rattle.bed_lang.specs.declared.module.Rel.TheVariants as rel
use Rattle.bed_lang.specs.declared.module.Hint.{Hint}
use Rattle.bed_lang.specs.declared.module.Hint.TheVariants as hint
use Rattle.bed_lang.specs.declared.module.Action.{Action}
use Rattle.bed_lang.specs.declared.module.Action.TheVariants as action
use Rattle.bed_lang.specs.declared.module.Function.{Function}
use Rattle.bed_lang.specs.declared.module.Module.{Module}
use Rattle.bed_lang.specs.declared.statement.Stmt.{Stmt}
use Rattle.bed_lang.specs.declared.statement.StmtKind.{Compute, Return, Hint as HintStmt, Find, Walk}
use Rattle.bed_lang.specs.declared.condition.Goal.TheVariants.{Meets, Returns}
use Rattle.bed_lang.specs.declared.condition.Placed.{Placed}
use Rattle.bed_lang.specs.declared.condition.Cond.{Cond}
use Rattle.bed_lang.specs.Prelude.{name, word, sequence, bind, segment}
use Rattle.bed_sat.specs.Conditions.{conditions}
use Rattle.bed_sat.specs.ConditionExamples.{function_of, module_of, signature, just_emp, y}
use Rattle.bed_sat.specs.Examples.{asserts}

-- the node, the value, and the list
abbrev pub n : Name
n = name (codes "n")

abbrev pub v : Name
v = name (codes "v")

abbrev pub p : Name
p = name (codes "p")

-- [p = old p]
abbrev pub kept : Term
kept = term.Pure (pure.Equal (word (codes "p")) (WordVar (var.Old p)))

-- hint unfold lst at p, hint unfold lseg at n, and hint append p
abbrev pub open_list : Hint
open_list = hint.Unfold (name (codes "lst")) (Some (word (codes "p")))

abbrev pub open_node : Hint
open_node = hint.Unfold (name (codes "lseg")) (Some (word (codes "n")))

abbrev pub append : Hint
append = hint.Append (word (codes "p"))

-- hint fold lseg(from, to, _) case c, and hint fold lst(p, _) case 1
abbrev pub hole : Arg
hole = arg.Seq 0 (SeqVar var.Hole)

abbrev pub fold : Word → Word → ℕ → Hint
fold from to c = hint.Fold (name (codes "lseg")) (arg.Word 0 from ∷ arg.Word 0 to ∷ hole ∷ []) c

abbrev pub fold_list : Hint
fold_list = hint.Fold (name (codes "lst")) (arg.Word 0 (word (codes "p")) ∷ hole ∷ []) 1

-- a hint before an action of this number, a test at `find` or `walk`, and a load of a word of the node
abbrev pub before : ℕ → Hint → Placed
before number h = record { before = number; hint = h }

abbrev pub assume : Rel → Name → Operand → Action
assume r x a = action.Assume (record { at = 10; rel = r; left = operand.Local x; right = a })

abbrev pub load_field : ℕ → Action
load_field k = action.Load v (record { base = operand.Local n; disp = k })

-- ---- find

-- hint fold lseg(n, 0, _) case 2; hint append p; hint fold lst(p, _) case 1; return n;
abbrev pub found_body : List Stmt
found_body =
    record { at = 30; kind = HintStmt (fold (word (codes "n")) (Number 0) 2) }
    ∷ record { at = 40; kind = HintStmt append }
    ∷ record { at = 50; kind = HintStmt fold_list }
    ∷ record { at = 60; kind = Return (operand.Local n) } ∷ []

-- find n, v for a in p of s as u, t keep [p = old p] { .. return n; } return 0;
-- The places of `find`, of `return n` and of `return 0` are 10, 60 and 70.
abbrev pub finding_function : Function
finding_function = function_of (n ∷ v ∷ []) (
    record {
      at = 10;
      kind = Find n v (operand.Local (name (codes "a"))) p (sequence (codes "s")) (name (codes "u")) (name (codes "t")) (asserts (kept ∷ [])) found_body;
    }
    ∷ record { at = 70; kind = Return (operand.Number 0) } ∷ []
    )

abbrev pub finding_module : Module
finding_module =
    module_of (record (signature (p ∷ name (codes "a") ∷ []) just_emp just_emp) { logical = bind (codes "s") sort.Seq ∷ [] }) finding_function

-- exists u: seq, t: seq. [s == app(u, t)] * (facts) * lseg(p, n, u) * lseg(n, 0, t) * [p = old p]
abbrev pub parted : Term
parted = term.Pure (pure.Same (sequence (codes "s")) (App (sequence (codes "u")) (sequence (codes "t"))))

abbrev pub behind : Term
behind = segment (word (codes "p")) (word (codes "n")) (sequence (codes "u"))

abbrev pub ahead : Term
ahead = segment (word (codes "n")) (Number 0) (sequence (codes "t"))

-- with the fact [a notin u]
abbrev pub finding_invariant : Assertion
finding_invariant = record {
  at = 0;
  binders = bind (codes "u") sort.Seq ∷ bind (codes "t") sort.Seq ∷ [];
  terms = parted ∷ term.Pure (pure.NonMember (word (codes "a")) (sequence (codes "u"))) ∷ behind ∷ ahead ∷ kept ∷ [];
}

-- n <- p, to the invariant
abbrev pub finding_begins : Cond
finding_begins = record {
  «module» = name (codes "m");
  function = name (codes "f");
  at = 10;
  locals = p ∷ name (codes "a") ∷ n ∷ v ∷ [];
  entry = true;
  start = just_emp;
  actions = action.Assign n (operand.Local p) ∷ [];
  goal = Meets finding_invariant;
  hints = before 0 open_list ∷ before 1 (fold (word (codes "p")) (word (codes "n")) 1) ∷ [];
}

-- n != 0, v <- [n] and v = a, to return n
abbrev pub finding_finds : Cond
finding_finds = record finding_begins {
  at = 60;
  entry = false;
  start = finding_invariant;
  actions = assume rel.Unequal n (operand.Number 0) ∷ load_field 0 ∷ assume rel.Equal v (operand.Local (name (codes "a"))) ∷ [];
  goal = Returns (operand.Local n);
  hints = before 1 open_node ∷ before 3 (fold (word (codes "n")) (Number 0) 2) ∷ before 3 append ∷ before 3 fold_list ∷ [];
}

-- n != 0, v <- [n], v != a, v <- [n + 4] and n <- v, to the invariant
abbrev pub finding_goes_on : Cond
finding_goes_on = record finding_begins {
  entry = false;
  start = finding_invariant;
  actions = assume rel.Unequal n (operand.Number 0) ∷ load_field 0 ∷ assume rel.Unequal v (operand.Local (name (codes "a")))
      ∷ load_field 4 ∷ action.Assign n (operand.Local v) ∷ [];
  hints = before 1 open_node ∷ before 4 (fold (word (codes "v")) (word (codes "v")) 1) ∷ before 4 (fold (word (codes "n")) (word (codes "v")) 2)
      ∷ before 4 append ∷ [];
}

-- n = 0, to return 0
abbrev pub finding_ends : Cond
finding_ends = record finding_begins {
  at = 70;
  entry = false;
  start = finding_invariant;
  actions = assume rel.Equal n (operand.Number 0) ∷ [];
  goal = Returns (operand.Number 0);
  hints = before 1 open_node ∷ before 1 fold_list ∷ [];
}

abbrev pub FindingExample : Type 0
FindingExample = conditions finding_module ≡ finding_begins ∷ finding_finds ∷ finding_goes_on ∷ finding_ends ∷ []

-- ---- walk

-- walk n, v in p of s as u, t keep [p = old p] { y <- y + v; } return y;
-- The places of `walk` and of `return y` are 10 and 70.
abbrev pub walking_function : Function
walking_function = function_of (y ∷ n ∷ v ∷ []) (
    record {
      at = 10;
      kind = Walk n v p (sequence (codes "s")) (name (codes "u")) (name (codes "t")) (asserts (kept ∷ []))
          (record { at = 30; kind = Compute y op.Add (operand.Local y) (operand.Local v) } ∷ []);
    }
    ∷ record { at = 70; kind = Return (operand.Local y) } ∷ []
    )

abbrev pub walking_module : Module
walking_module = module_of (record (signature (p ∷ []) just_emp just_emp) { logical = bind (codes "s") sort.Seq ∷ [] }) walking_function

abbrev pub walking_invariant : Assertion
walking_invariant = record finding_invariant { terms = parted ∷ behind ∷ ahead ∷ kept ∷ [] }

-- n <- p, to the invariant
abbrev pub walking_begins : Cond
walking_begins = record finding_begins { locals = p ∷ y ∷ n ∷ v ∷ []; goal = Meets walking_invariant }

-- n != 0, v <- [n], y <- y + v, v <- [n + 4] and n <- v, to the invariant
abbrev pub walking_goes_on : Cond
walking_goes_on = record walking_begins {
  entry = false;
  start = walking_invariant;
  actions = assume rel.Unequal n (operand.Number 0) ∷ load_field 0 ∷ action.Compute y op.Add (operand.Local y) (operand.Local v)
      ∷ load_field 4 ∷ action.Assign n (operand.Local v) ∷ [];
  hints = before 1 open_node ∷ before 4 (fold (word (codes "v")) (word (codes "v")) 1) ∷ before 4 (fold (word (codes "n")) (word (codes "v")) 2)
      ∷ before 4 append ∷ [];
}

-- n = 0, to return y
abbrev pub walking_ends : Cond
walking_ends = record walking_begins {
  at = 70;
  entry = false;
  start = walking_invariant;
  actions = assume rel.Equal n (operand.Number 0) ∷ [];
  goal = Returns (operand.Local y);
  hints = before 1 open_node ∷ before 1 fold_list ∷ [];
}

abbrev pub WalkingExample : Type 0
WalkingExample = conditions walking_module ≡ walking_begins ∷ walking_goes_on ∷ walking_ends ∷ []
