-- What is appended by parts, and what it is in whole.
use Rattle.std.proofs.Common.{◌≡◌, ℕ, ◌+◌, ◌<◌, Option, Some, None, option_and_then, Result, Ok, Err, OnOk, OnErr, IfOk, List, [], ◌∷◌, ◌++◌, length, refl, sym, ◌∙◌, ap, arith, append_assoc}
use Rattle.std.proofs.lemmas.List.{append-nil}
use Rattle.bed_lang.specs.declared.logic.Assertion.{Assertion}
use Rattle.bed_lang.specs.declared.module.Test.{Test}
use Rattle.bed_lang.specs.declared.module.Join.{Join}
use Rattle.bed_lang.specs.declared.condition.Cond.{Cond}
use Rattle.bed_lang.specs.declared.condition.Goal.TheVariants.{Meets}
use Rattle.bed_lang.specs.declared.statement.Stmt.{Stmt}
use Rattle.bed_lang.specs.declared.statement.StmtKind.{If, While}
use Rattle.bed_sat.specs.Conditions.{Site, Path, body_part, path_from, where_true, where_false, choice, loop, condition, owed_from, owed_up_to}
use Rattle.bed_sat.proofs.ConditionLaws.{part-If, part-While}
use Rattle.bed_laws.specs.Counts.{body_count}
use Rattle.bed_laws.proofs.StatementsLaws.{one_goes, one_owes, then_goes, then_owes}
use Rattle.bed_laws.proofs.CountLaws.{path_grows, count_append, count-If, count-While}
use Rattle.bed_macro.specs.Lists.{Begins}
use Rattle.bed_macro.specs.Joins.{owed_with, joined}

-- ---- lists that were appended to

pub begins_same : {A : Type 0} (xs front : List A) → xs ≡ front → Begins xs front
begins_same xs front e = ([], e ∙ sym (append-nil front))

pub begins_on : {A : Type 0} (xs mid front more : List A) → mid ≡ front ++ more → Begins xs mid → Begins xs front
begins_on xs mid front more e b = (more ++ b.0, b.1 ∙ ap (λ l. l ++ b.0) e ∙ append_assoc front more b.0)

pub on_ok : {A E : Type 0} (r : Result A E) (P Q : Type 0) → (P → Q) → OnOk r P → OnOk r Q
on_ok (Ok x) P Q f h = f h
on_ok (Err e) P Q f h = h

pub on_err : {A E : Type 0} (r : Result A E) (P Q : Type 0) → (P → Q) → OnErr r P → OnErr r Q
on_err (Ok x) P Q f h = h
on_err (Err e) P Q f h = f h

-- ---- one part and then another

pub then_done : (o0 o1 o2 a b : List Cond) → o1 ≡ o0 ++ a → o2 ≡ o1 ++ b → o2 ≡ o0 ++ (a ++ b)
then_done o0 o1 o2 a b e f = f ∙ ap (λ l. l ++ b) e ∙ append_assoc o0 a b

pub then_owed : (site : Site) (xs ys : List Stmt) (p : Path) (q : Option Path) → q ≡ (body_part site xs).goes_on p → (body_part site xs).owes p ++ owed_from q (body_part site ys) ≡ (body_part site (xs ++ ys)).owes p
then_owed site xs ys p q e = ap (λ o. (body_part site xs).owes p ++ owed_from o (body_part site ys)) e ∙ sym (then_owes site xs ys p)

pub then_path : (site : Site) (xs ys : List Stmt) (p : Path) (q : Option Path) → q ≡ (body_part site xs).goes_on p → option_and_then (body_part site ys).goes_on q ≡ (body_part site (xs ++ ys)).goes_on p
then_path site xs ys p q e = ap (option_and_then (body_part site ys).goes_on) e ∙ sym (then_goes site xs ys p)

-- the path behind the first part and the statements of the second are few enough
pub then_few : (site : Site) (xs ys : List Stmt) (p q : Path) → (body_part site xs).goes_on p ≡ Some q → length p.actions + body_count (xs ++ ys) < 4294967295 → length q.actions + body_count ys < 4294967295
then_few site xs ys p q e few = omega (arith, path_grows site xs p q e, count_append xs ys)

pub first_few : (xs ys : List Stmt) (n : ℕ) → n + body_count (xs ++ ys) < 4294967295 → n + body_count xs < 4294967295
first_few xs ys n few = omega (arith, count_append xs ys)

-- ---- a choice

module _ (at : ℕ) (t : Test) (ys ns : List Stmt) (j : Option Join) where
  abbrev if_statement : Stmt
  if_statement = record { at = at; kind = If t ys ns j }

  pub choice_few : (n : ℕ) → n + body_count (if_statement ∷ []) < 4294967295 → (n + 1 + body_count ys < 4294967295) × (n + 1 + body_count ns < 4294967295)
  choice_few n few = let c = count-If at t ys ns j in (omega arith, omega arith)

  module _ (site : Site) (p : Path) where
    choice_parts : (j : Option Join) → owed_with site j (body_part site ys) (where_true t p) ++ owed_with site j (body_part site ns) (where_false t p) ≡ (choice site t (body_part site ys) (body_part site ns) j).owes p
    choice_parts None = refl
    choice_parts (Some j) = refl

    choice_paths : (j : Option Join) → joined j ((body_part site ys).goes_on (where_true t p)) ((body_part site ns).goes_on (where_false t p)) ≡ (choice site t (body_part site ys) (body_part site ns) j).goes_on p
    choice_paths None = refl
    choice_paths (Some j) = refl

    pub choice_owed : owed_with site j (body_part site ys) (where_true t p) ++ owed_with site j (body_part site ns) (where_false t p) ≡ (body_part site (if_statement ∷ [])).owes p
    choice_owed = choice_parts j ∙ sym (one_owes site if_statement (choice site t (body_part site ys) (body_part site ns) j) (part-If site at t ys ns j) p)

    pub choice_path : joined j ((body_part site ys).goes_on (where_true t p)) ((body_part site ns).goes_on (where_false t p)) ≡ (body_part site (if_statement ∷ [])).goes_on p
    choice_path = choice_paths j ∙ sym (one_goes site if_statement (choice site t (body_part site ys) (body_part site ns) j) (part-If site at t ys ns j) p)

-- ---- a loop

module _ (at : ℕ) (t : Test) (place : ℕ) (I : Assertion) (body : List Stmt) where
  abbrev while_statement : Stmt
  while_statement = record { at = at; kind = While t place I body }

  pub loop_few : (n : ℕ) → n + body_count (while_statement ∷ []) < 4294967295 → 1 + body_count body < 4294967295
  loop_few n few = let c = count-While at t place I body in omega arith

  module _ (site : Site) (p : Path) where
    pub loop_owed : condition site place (Meets I) p ∷ owed_up_to site place I (body_part site body) (where_true t (path_from I)) ≡ (body_part site (while_statement ∷ [])).owes p
    loop_owed = sym (one_owes site while_statement (loop site t place I (body_part site body)) (part-While site at t place I body) p)

    pub loop_path : Some (where_false t (path_from I)) ≡ (body_part site (while_statement ∷ [])).goes_on p
    loop_path = sym (one_goes site while_statement (loop site t place I (body_part site body)) (part-While site at t place I body) p)

-- ---- answers of calls that may fail

pub given_ok : {A E : Type 0} (r : Result A E) (P : Type 0) → P → OnOk r P
given_ok (Ok x) P p = p
given_ok (Err e) P p = tt

pub if_ok : {A E : Type 0} (r : Result A E) (P Q : A → Type 0) → ((x : A) → P x → Q x) → IfOk r P → IfOk r Q
if_ok (Ok x) P Q f h = f x h
if_ok (Err e) P Q f h = h
