-- What a module without fresh variables declares and owes has none.
use Rattle.std.proofs.Common.{◌≡◌, ℕ, zero, suc, ◌+◌, ◌<◌, Bool, true, false, ◌&&◌, IsTrue, Option, Some, None, option_map, option_and_then, List, [], ◌∷◌, ◌++◌, map, codes, bytes_eq, Contains, refl, sym, ◌∙◌, ap, subst, arith}
use Rattle.std.specs.Prelude.{flat_map}
use Rattle.std.specs.Option.{option_or}
use Rattle.bed_lang.specs.declared.word.Name.{Name}
use Rattle.bed_lang.specs.declared.word.Var.TheVariants as var
use Rattle.bed_lang.specs.declared.word.Word.{Word, Number, Add}
use Rattle.bed_lang.specs.declared.word.Seq.{Seq, Nil, Cons, App}
use Rattle.bed_lang.specs.declared.logic.Assertion.{Assertion}
use Rattle.bed_lang.specs.declared.logic.Term.{Term}
use Rattle.bed_lang.specs.declared.module.Action.{Action}
use Rattle.bed_lang.specs.declared.module.Hint.{Hint}
use Rattle.bed_lang.specs.declared.module.Action.TheVariants as action
use Rattle.bed_lang.specs.declared.module.Hint.TheVariants.{Append}
use Rattle.bed_lang.specs.declared.module.Operand.{Operand}
use Rattle.bed_lang.specs.declared.module.Operand.TheVariants as operand
use Rattle.bed_lang.specs.declared.module.Test.{Test}
use Rattle.bed_lang.specs.declared.module.Join.{Join}
use Rattle.bed_lang.specs.declared.module.Signature.{Signature}
use Rattle.bed_lang.specs.declared.module.Predicate.{Predicate}
use Rattle.bed_lang.specs.declared.module.Function.{Function}
use Rattle.bed_lang.specs.declared.module.Module.{Module}
use Rattle.bed_lang.specs.declared.condition.Cond.{Cond}
use Rattle.bed_lang.specs.declared.statement.Stmt.{Stmt, roll-Stmt, ind-Stmt, fold-roll-Stmt}
use Rattle.bed_lang.specs.declared.statement.StmtKind.{StmtKind, StmtKind-F, roll-StmtKind, map-StmtKind, fold-roll-StmtKind}
use Rattle.bed_lang.specs.Declarations.{declarations}
use Rattle.bed_lang.specs.Lookups.{first_signature}
use Rattle.bed_lang.specs.Prelude.{name, word, sequence, segment, empty_segment, longer_segment, lseg, lst, prelude}
use Rattle.bed_table.specs.ListLoops.{word_named, seq_named, word_of, list_invariant, not_yet, not_null, is_key, field_at}
use Rattle.bed_sat.specs.Written.{unfold_at, fold_segment, fold_list, made_test, written}
use Rattle.bed_sat.specs.ConditionLaws.{PathsAreSame}
use Rattle.bed_sat.specs.Conditions.{Path, path_from, path_at_entry, Site, site_of, Part, acted, hinted, owed_from, in_order, part_step, met, loop, choice, list_loop, where_true, where_false, kind_part_step, kind_part, statement_part, body_part, function_conditions, conditions}
use Rattle.bed_sat.proofs.ExtensionLaws.{found}
use Rattle.bed_deriv.specs.Fresh.{every, known_word, known_seq, known_term, known_assertion, unfresh_signature, unfresh_predicate, unfresh_condition, AreUnfresh}
use Rattle.bed_deriv.proofs.KnownLaws.{every-append, known-Number, known-Var, known-Label, known-Add, known_seq-Var, known_seq-Nil, known_seq-Cons, known_seq-App}
use Rattle.bed_unfresh.specs.Unfresh.{unfresh_join, unfresh_kind_step, unfresh_statement_step, unfresh_kind, unfresh_statement, unfresh_function, unfresh_module, DeclarationsAreUnfresh, ConditionsAreUnfresh}
use Rattle.bed_unfresh.proofs.StatementLemmas.{both_true, front_true, back_true}

-- ---- paths and conditions

abbrev Fine : Path → Type 0
Fine p = known_assertion 0 p.start ≡ true

abbrev FineIf : Option Path → Type 0
FineIf None = Unit {0}
FineIf (Some p) = Fine p

abbrev AreFine : List Cond → Type 0
AreFine [] = Unit {0}
AreFine (c ∷ cs) = (unfresh_condition c ≡ true) × AreFine cs

fine_at : (cs : List Cond) → AreFine cs → (c : Cond) → Contains cs c → unfresh_condition c ≡ true
fine_at [] all c (k, lt, e) = absurd (omega arith)
fine_at (x ∷ cs) all c (zero, lt, e) = subst (λ (y : Cond). unfresh_condition y ≡ true) e all.0
fine_at (x ∷ cs) all c (suc k, lt, e) = fine_at cs all.1 c (k, omega arith, e)

both : (xs ys : List Cond) → AreFine xs → AreFine ys → AreFine (xs ++ ys)
both [] ys a b = b
both (x ∷ xs) ys a b = (a.0, both xs ys a.1 b)

-- a part leaves paths without fresh variables, and owes conditions without
record Keeps (part : Part) : Type 0 where
  goes : (p : Path) → Fine p → FineIf (part.goes_on p)
  owes : (p : Path) → Fine p → AreFine (part.owes p)

straight_keeps : (f : Path → Path) → ((p : Path) → Fine p → Fine (f p)) → Keeps (record { goes_on = λ p. Some (f p); owes = λ p. [] })
straight_keeps f same = record { goes = same; owes = λ p h. tt }

rest_keeps : (b : Part) → Keeps b → (o : Option Path) → FineIf o → FineIf (option_and_then b.goes_on o) × AreFine (owed_from o b)
rest_keeps b kb None h = (tt, tt)
rest_keeps b kb (Some p) h = (kb.goes p h, kb.owes p h)

then_keeps : (a : Part) (ps : List Part) → Keeps a → Keeps (in_order ps) → Keeps (in_order (a ∷ ps))
then_keeps a ps ka kb = record {
  goes = λ p h. (rest_keeps (in_order ps) kb (a.goes_on p) (ka.goes p h)).0;
  owes = λ p h. both (a.owes p) (owed_from (a.goes_on p) (in_order ps)) (ka.owes p h) (rest_keeps (in_order ps) kb (a.goes_on p) (ka.goes p h)).1;
}

abbrev EachKeeps : List Part → Type 0
EachKeeps [] = Unit {0}
EachKeeps (a ∷ ps) = Keeps a × EachKeeps ps

order_keeps : (ps : List Part) → EachKeeps ps → Keeps (in_order ps)
order_keeps [] k = record { goes = λ p h. h; owes = λ p h. tt }
order_keeps (a ∷ ps) k = then_keeps a ps k.0 (order_keeps ps k.1)

acts : (a : Action) → Keeps (acted a)
acts a = record { goes = λ p h. h; owes = λ p h. tt }

hints : (x : Hint) → Keeps (hinted x)
hints x = record { goes = λ p h. h; owes = λ p h. tt }

module _ (site : Site) where
  met_fine : (place : ℕ) (A : Assertion) (o : Option Path) → known_assertion 0 A ≡ true → FineIf o → AreFine (met site place A o)
  met_fine place A None ka h = tt
  met_fine place A (Some p) ka h = (both_true (known_assertion 0 p.start) (known_assertion 0 A) h ka, tt)

  loop_keeps : (t : Test) (place : ℕ) (A : Assertion) (body : Part) → known_assertion 0 A ≡ true → Keeps body → Keeps (loop site t place A body)
  loop_keeps t place A body ka kb = record {
    goes = λ p h. ka;
    owes = λ p h.
        let q : Path = where_true t (path_from A) in
        (both_true (known_assertion 0 p.start) (known_assertion 0 A) h ka, both (body.owes q) (met site place A (body.goes_on q)) (kb.owes q ka) (met_fine place A (body.goes_on q) ka (kb.goes q ka)));
  }

  either_fine : (o q : Option Path) → FineIf o → FineIf q → FineIf (option_or o q)
  either_fine None q h g = g
  either_fine (Some p) q h g = h

  join_fine : (A : Assertion) (o : Option Path) → known_assertion 0 A ≡ true → FineIf (option_map (λ q. path_from A) o)
  join_fine A None ka = tt
  join_fine A (Some p) ka = ka

  choice_keeps : (t : Test) (ys ns : Part) (j : Option Join) → unfresh_join j ≡ true → Keeps ys → Keeps ns → Keeps (choice site t ys ns j)
  choice_keeps t ys ns None kj ky kn = record {
    goes = λ p h. either_fine (ys.goes_on (where_true t p)) (ns.goes_on (where_false t p)) (ky.goes (where_true t p) h) (kn.goes (where_false t p) h);
    owes = λ p h. both (ys.owes (where_true t p)) (ns.owes (where_false t p)) (ky.owes (where_true t p) h) (kn.owes (where_false t p) h);
  }
  choice_keeps t ys ns (Some j) kj ky kn = record {
    goes = λ p h. join_fine j.assertion (option_or (ys.goes_on (where_true t p)) (ns.goes_on (where_false t p))) kj;
    owes = λ p h.
        both (ys.owes (where_true t p) ++ met site j.place j.assertion (ys.goes_on (where_true t p))) (ns.owes (where_false t p) ++ met site j.place j.assertion (ns.goes_on (where_false t p)))
        (both (ys.owes (where_true t p)) (met site j.place j.assertion (ys.goes_on (where_true t p))) (ky.owes (where_true t p) h) (met_fine j.place j.assertion (ys.goes_on (where_true t p)) kj (ky.goes (where_true t p) h)))
        (both (ns.owes (where_false t p)) (met site j.place j.assertion (ns.goes_on (where_false t p))) (kn.owes (where_false t p) h) (met_fine j.place j.assertion (ns.goes_on (where_false t p)) kj (kn.goes (where_false t p) h)));
  }

  list_loop_keeps : (at : ℕ) (n v p : Name) (A : Assertion) (visit : Part) → known_assertion 0 A ≡ true → Keeps visit → Keeps (list_loop site at n v p A visit)
  list_loop_keeps at n v p A visit ka kv =
      let turn : List Part =
      hinted (unfold_at (codes "lseg") n) ∷ acted (action.Load v (field_at n 0)) ∷ visit ∷ acted (action.Load v (field_at n 4)) ∷ hinted (fold_segment v v 1)
      ∷ hinted (fold_segment n v 2) ∷ hinted (Append (word_named p)) ∷ acted (action.Assign n (operand.Local v)) ∷ [] in
      let turn_keeps : Keeps (in_order turn) = order_keeps turn (hints _, (acts _, (kv, (acts _, (hints _, (hints _, (hints _, (acts _, tt)))))))) in
      order_keeps (
      hinted (unfold_at (codes "lst") p) ∷ acted (action.Assign n (operand.Local p)) ∷ hinted (fold_segment p n 1)
      ∷ loop site (made_test at (not_null n)) at A (in_order turn) ∷ hinted (unfold_at (codes "lseg") n) ∷ hinted (fold_list p) ∷ []
      )
      (hints _, (acts _, (hints _, (loop_keeps (made_test at (not_null n)) at A (in_order turn) ka turn_keeps, (hints _, (hints _, tt))))))

  -- ---- the invariant of `find` and `walk`

  operand_known : (a : Operand) → known_word 0 (word_of a) ≡ true
  operand_known (operand.Number k) = known-Number 0 k
  operand_known (operand.Local x) = known-Var 0 (var.Named x)
  operand_known (operand.Label f) = known-Label 0 f

  parted_known : (s : Seq) (u t : Name) → known_seq 0 s ≡ true → (known_seq 0 s && known_seq 0 (App (seq_named u) (seq_named t))) ≡ true
  parted_known s u t h =
      both_true (known_seq 0 s) (known_seq 0 (App (seq_named u) (seq_named t))) h
      (known_seq-App 0 (seq_named u) (seq_named t) ∙ both_true (known_seq 0 (seq_named u)) (known_seq 0 (seq_named t)) (known_seq-Var 0 (var.Named u)) (known_seq-Var 0 (var.Named t)))

  not_yet_known : (a : Operand) (u : Name) → every (known_term 0) (not_yet a u) ≡ true
  not_yet_known a u =
      both_true (known_word 0 (word_of a) && known_seq 0 (seq_named u)) true (both_true (known_word 0 (word_of a)) (known_seq 0 (seq_named u)) (operand_known a) (known_seq-Var 0 (var.Named u))) refl

  invariant_known : (n p : Name) (s : Seq) (u t : Name) (facts : List Term) (keep : Assertion) → known_seq 0 s ≡ true → every (known_term 0) facts ≡ true → known_assertion 0 keep ≡ true
      → known_assertion 0 (list_invariant n p s u t facts keep) ≡ true
  invariant_known n p s u t facts keep hs hf hk =
      let w = λ (x : Name). known-Var 0 (var.Named x) in
      let q = λ (x : Name). known_seq-Var 0 (var.Named x) in
      both_true (known_seq 0 s && known_seq 0 (App (seq_named u) (seq_named t))) _ (parted_known s u t hs)
      (every-append (known_term 0) facts _ hf
      (both_true _ _ (both_true (known_word 0 (word_named p)) _ (w p) (both_true (known_word 0 (word_named n)) _ (w n) (both_true (known_seq 0 (seq_named u)) true (q u) refl)))
      (both_true _ _ (both_true (known_word 0 (word_named n)) _ (w n) (both_true (known_word 0 (Number 0)) _ (known-Number 0 0) (both_true (known_seq 0 (seq_named t)) true (q t) refl))) hk)))

  -- ---- statements

  abbrev KindKeeps : StmtKind → Type 0
  KindKeeps k = (at : ℕ) → unfresh_kind k ≡ true → Keeps (kind_part site k at)

  abbrev StatementKeeps : Stmt → Type 0
  StatementKeeps s = unfresh_statement s ≡ true → Keeps (statement_part site s)

  abbrev of_list : List ((s : Stmt) × StatementKeeps s) → List Stmt
  of_list ss = map (λ s. s.0) ss

  list_keeps : (ss : List ((s : Stmt) × StatementKeeps s)) → every (λ b. b) (map unfresh_statement (of_list ss)) ≡ true → Keeps (in_order (map (statement_part site) (of_list ss)))
  list_keeps [] h = order_keeps [] tt
  list_keeps (s ∷ ss) h =
      then_keeps (statement_part site s.0) (map (statement_part site) (of_list ss)) (s.1 (front_true (unfresh_statement s.0) _ h)) (list_keeps ss (back_true (unfresh_statement s.0) _ h))

  abbrev plain_layer : StmtKind-F ((k : StmtKind) × KindKeeps k) ((s : Stmt) × StatementKeeps s) → StmtKind-F StmtKind Stmt
  plain_layer y = map-StmtKind _ _ _ _ (λ e. e.0) (λ e. e.0) y

  abbrev unfresh_layer : StmtKind-F StmtKind Stmt → Bool
  unfresh_layer x = unfresh_kind_step (map-StmtKind _ _ _ _ unfresh_kind unfresh_statement x)

  abbrev part_layer : StmtKind-F StmtKind Stmt → ℕ → Part
  part_layer x at = kind_part_step site (map-StmtKind _ _ _ _ (kind_part site) (statement_part site) x) at

  layer : (y : StmtKind-F ((k : StmtKind) × KindKeeps k) ((s : Stmt) × StatementKeeps s)) (at : ℕ) → unfresh_layer (plain_layer y) ≡ true → Keeps (part_layer (plain_layer y) at)
  layer (StmtKind-F.Assign x a) at h = acts _
  layer (StmtKind-F.Compute x op a b) at h = acts _
  layer (StmtKind-F.Load x q) at h = acts _
  layer (StmtKind-F.LoadByte x q) at h = acts _
  layer (StmtKind-F.Store q a) at h = acts _
  layer (StmtKind-F.StoreByte q a) at h = acts _
  layer (StmtKind-F.Call place into target via args hints after) at h = record { goes = λ p g. h; owes = λ p g. (both_true (known_assertion 0 p.start) (known_assertion 0 after) g h, tt) }
  layer (StmtKind-F.If test ys ns join) at h =
      let y0 = every (λ b. b) (map unfresh_statement (of_list ys)) in
      let n0 = every (λ b. b) (map unfresh_statement (of_list ns)) in
      let rest = back_true y0 _ h in
      choice_keeps test (in_order (map (statement_part site) (of_list ys))) (in_order (map (statement_part site) (of_list ns))) join (back_true n0 _ rest) (list_keeps ys (front_true y0 _ h)) (list_keeps ns (front_true n0 _ rest))
  layer (StmtKind-F.While test place invariant body) at h =
      loop_keeps test place invariant (in_order (map (statement_part site) (of_list body))) (front_true (known_assertion 0 invariant) _ h) (list_keeps body (back_true (known_assertion 0 invariant) _ h))
  layer (StmtKind-F.Return a) at h = record { goes = λ p g. tt; owes = λ p g. (both_true (known_assertion 0 p.start) true g refl, tt) }
  layer (StmtKind-F.Hint x) at h = hints _
  layer (StmtKind-F.Find n v a p s u t keep body) at h =
      let inner : Part = in_order (map (statement_part site) (of_list body)) in
      let rest = back_true (known_seq 0 s) _ h in
      list_loop_keeps at n v p (list_invariant n p s u t (not_yet a u) keep) (choice site (made_test at (is_key v a)) inner (in_order []) None)
      (invariant_known n p s u t (not_yet a u) keep (front_true (known_seq 0 s) _ h) (not_yet_known a u) (front_true (known_assertion 0 keep) _ rest))
      (choice_keeps (made_test at (is_key v a)) inner (in_order []) None refl (list_keeps body (back_true (known_assertion 0 keep) _ rest)) (order_keeps [] tt))
  layer (StmtKind-F.Walk n v p s u t keep body) at h =
      let rest = back_true (known_seq 0 s) _ h in
      list_loop_keeps at n v p (list_invariant n p s u t [] keep) (in_order (map (statement_part site) (of_list body)))
      (invariant_known n p s u t [] keep (front_true (known_seq 0 s) _ h) refl (front_true (known_assertion 0 keep) _ rest)) (list_keeps body (back_true (known_assertion 0 keep) _ rest))

  every_keeps : (s : Stmt) → StatementKeeps s
  every_keeps =
      ind-Stmt KindKeeps StatementKeeps
      (λ x y is at h.
      subst (λ (f : ℕ → Part). Keeps (f at)) (sym (fold-roll-StmtKind (ℕ → Part) Part (kind_part_step site) part_step x))
      (subst (λ z. unfresh_layer z ≡ true → Keeps (part_layer z at)) is (layer y at) (sym (fold-roll-StmtKind Bool Bool unfresh_kind_step unfresh_statement_step x) ∙ h)))
      (λ x y is h.
      subst (λ (part : Part). Keeps part) (sym (fold-roll-Stmt (ℕ → Part) Part (kind_part_step site) part_step x))
      (subst (λ z. unfresh_kind z.kind ≡ true → Keeps (kind_part site z.kind z.at)) is (y.kind.1 y.at) (sym (fold-roll-Stmt Bool Bool unfresh_kind_step unfresh_statement_step x) ∙ h)))

  body_keeps : (body : List Stmt) → every unfresh_statement body ≡ true → Keeps (body_part site body)
  body_keeps [] h = order_keeps [] tt
  body_keeps (s ∷ ss) h =
      then_keeps (statement_part site s) (map (statement_part site) ss) (every_keeps s (front_true (unfresh_statement s) _ h)) (body_keeps ss (back_true (unfresh_statement s) _ h))

-- ---- functions and modules

every_at : {A : Type 0} (f : A → Bool) (xs : List A) → every f xs ≡ true → (x : A) → Contains xs x → f x ≡ true
every_at f [] h x (k, lt, e) = absurd (omega arith)
every_at f (y ∷ ys) h x (zero, lt, e) = subst (λ z. f z ≡ true) e (front_true (f y) _ h)
every_at f (y ∷ ys) h x (suc k, lt, e) = every_at f ys (back_true (f y) _ h) x (k, omega arith, e)

entry_fine : (m : Module) (x : List ℕ) → every unfresh_signature m.signatures ≡ true → Fine (path_at_entry (first_signature m.signatures x))
entry_fine m x h = by (first_signature m.signatures x) refl
  where
    by : (o : Option Signature) → first_signature m.signatures x ≡ o → Fine (path_at_entry o)
    by None e = refl
    by (Some S) e = front_true (known_assertion 0 S.pre) _ (every_at unfresh_signature m.signatures h S (found (λ (T : Signature). bytes_eq T.name.bytes x) m.signatures S e).0)

function_fine : PathsAreSame → (m : Module) (f : Function) → every unfresh_signature m.signatures ≡ true → unfresh_function f ≡ true → AreFine (function_conditions m f)
function_fine same m f hs hf =
    let p = path_at_entry (first_signature m.signatures f.signature.bytes) in
    subst (λ (part : Part). AreFine (part.owes p)) (sym (same (site_of m f) f.body)) ((body_keeps (site_of m f) f.body hf).owes p (entry_fine m f.signature.bytes hs))

functions_fine : PathsAreSame → (m : Module) (fs : List Function) → every unfresh_signature m.signatures ≡ true → every unfresh_function fs ≡ true → AreFine (flat_map (function_conditions m) fs)
functions_fine same m [] hs hf = tt
functions_fine same m (f ∷ fs) hs hf =
    both (function_conditions m f) (flat_map (function_conditions m) fs) (function_fine same m f hs (front_true (unfresh_function f) _ hf)) (functions_fine same m fs hs (back_true (unfresh_function f) _ hf))

pub conditions_are_unfresh : PathsAreSame → ConditionsAreUnfresh
conditions_are_unfresh same m h c is =
    let rest = back_true (every unfresh_signature m.signatures) _ h in
    fine_at (conditions m) (functions_fine same m m.functions (front_true (every unfresh_signature m.signatures) _ h) (back_true (every unfresh_predicate m.predicates) _ rest)) c is

-- the prelude's predicates
word_known : (x : List ℕ) → known_word 0 (word x) ≡ true
word_known x = known-Var 0 (var.Named (name x))

sequence_known : (x : List ℕ) → known_seq 0 (sequence x) ≡ true
sequence_known x = known_seq-Var 0 (var.Named (name x))

segment_known : (p q : Word) (s : Seq) → known_word 0 p ≡ true → known_word 0 q ≡ true → known_seq 0 s ≡ true → known_term 0 (segment p q s) ≡ true
segment_known p q s hp hq hs = both_true (known_word 0 p) _ hp (both_true (known_word 0 q) _ hq (both_true (known_seq 0 s) true hs refl))

empty_known : known_assertion 0 empty_segment ≡ true
empty_known =
    both_true _ _ (both_true (known_word 0 (word (codes "p"))) (known_word 0 (word (codes "q"))) (word_known (codes "p")) (word_known (codes "q")))
    (both_true _ true (both_true (known_seq 0 (sequence (codes "s"))) (known_seq 0 Nil) (sequence_known (codes "s")) (known_seq-Nil 0)) refl)

longer_known : known_assertion 0 longer_segment ≡ true
longer_known =
    let p = word_known (codes "p") in
    let v = word_known (codes "v") in
    let next = known-Add 0 (word (codes "p")) (Number 4) ∙ both_true (known_word 0 (word (codes "p"))) (known_word 0 (Number 4)) p (known-Number 0 4) in
    let list = known_seq-Cons 0 (word (codes "v")) (sequence (codes "t")) ∙ both_true (known_word 0 (word (codes "v"))) (known_seq 0 (sequence (codes "t"))) v (sequence_known (codes "t")) in
    both_true _ _ (both_true (known_word 0 (word (codes "p"))) (known_word 0 (Number 0)) p (known-Number 0 0))
    (both_true _ _ (both_true (known_seq 0 (sequence (codes "s"))) (known_seq 0 (Cons (word (codes "v")) (sequence (codes "t")))) (sequence_known (codes "s")) list)
    (both_true _ _ (both_true (known_word 0 (word (codes "p"))) (known_word 0 (word (codes "v"))) p v)
    (both_true _ _ (both_true (known_word 0 (Add (word (codes "p")) (Number 4))) (known_word 0 (word (codes "n"))) next (word_known (codes "n")))
    (both_true _ true (segment_known (word (codes "n")) (word (codes "q")) (sequence (codes "t")) (word_known (codes "n")) (word_known (codes "q")) (sequence_known (codes "t"))) refl))))

prelude_known : every unfresh_predicate prelude ≡ true
prelude_known =
    both_true (unfresh_predicate lseg) _ (both_true (known_assertion 0 empty_segment) _ empty_known (both_true (known_assertion 0 longer_segment) true longer_known refl))
    (both_true (unfresh_predicate lst) true
    (both_true _ true (both_true _ true (segment_known (word (codes "p")) (Number 0) (sequence (codes "s")) (word_known (codes "p")) (known-Number 0 0) (sequence_known (codes "s"))) refl) refl) refl)

pub declarations_are_unfresh : DeclarationsAreUnfresh
declarations_are_unfresh m h =
    let rest = back_true (every unfresh_signature m.signatures) _ h in
    record {
      signatures = front_true (every unfresh_signature m.signatures) _ h;
      predicates = every-append unfresh_predicate prelude m.predicates prelude_known (front_true (every unfresh_predicate m.predicates) _ rest);
    }
