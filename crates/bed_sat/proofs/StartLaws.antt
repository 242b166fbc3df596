-- The conditions of a module start from assertions of the module.
use Rattle.std.proofs.Common.{◌≡◌, ℕ, zero, suc, Bool, true, false, ◌&&◌, IsTrue, Option, Some, None, is_some, option_map, option_and_then, List, [], ◌∷◌, ◌++◌, map, codes, bytes_eq, flat_map, Contains, refl, sym, subst, arith}
use Rattle.std.specs.List.{list_all}
use Rattle.std.specs.Option.{option_or}
use Rattle.std.proofs.lemmas.Bool.{and_parts}
use Rattle.bed_lang.specs.declared.word.Name.{Name}
use Rattle.bed_lang.specs.declared.word.Seq.{Seq}
use Rattle.bed_lang.specs.declared.logic.Assertion.{Assertion}
use Rattle.bed_lang.specs.declared.module.Action.{Action}
use Rattle.bed_lang.specs.declared.module.Hint.{Hint}
use Rattle.bed_lang.specs.declared.module.Hint.TheVariants.{Append}
use Rattle.bed_lang.specs.declared.module.Action.TheVariants as action
use Rattle.bed_lang.specs.declared.module.Operand.TheVariants.{Local}
use Rattle.bed_lang.specs.declared.module.Test.{Test}
use Rattle.bed_lang.specs.declared.module.Join.{Join}
use Rattle.bed_lang.specs.declared.module.Signature.{Signature}
use Rattle.bed_lang.specs.declared.module.Function.{Function}
use Rattle.bed_lang.specs.declared.module.Module.{Module}
use Rattle.bed_lang.specs.declared.condition.Decls.{Decls}
use Rattle.bed_lang.specs.declared.condition.Cond.{Cond}
use Rattle.bed_lang.specs.declared.statement.Stmt.{Stmt, ind-Stmt, roll-Stmt, fold-roll-Stmt}
use Rattle.bed_lang.specs.declared.statement.StmtKind.{StmtKind, StmtKind-F, roll-StmtKind, map-StmtKind, fold-roll-StmtKind}
use Rattle.bed_lang.specs.Lookups.{first_signature, predicate_named}
use Rattle.bed_lang.specs.Declarations.{declarations}
use Rattle.bed_table.specs.ListLoops.{word_named, list_invariant, not_yet, not_null, is_key, field_at}
use Rattle.bed_sat.specs.Written.{unfold_at, fold_segment, fold_list, made_test}
use Rattle.bed_sat.specs.Conditions.{Path, path_from, Site, Part, acted, hinted, owed_from, in_order, part_step, met, loop, choice, list_loop, where_true, where_false, kind_part_step, kind_part, statement_part, body_part, path_at_entry, site_of, function_conditions, conditions}
use Rattle.bed_sat.specs.Declarations.{assertion_known, signature_known, join_known, kind_known_step, statement_known_step, kind_known, statement_known, signatures_known, predicates_known}
use Rattle.bed_sat.specs.DeclarationLaws.{StartsAreKnown, ValidAmongAll}
use Rattle.bed_sat.proofs.WrittenParts.{paths_are_same}
use Rattle.bed_sat.proofs.ExtensionLaws.{found, passed, module_extends, conditions_stay_valid}

no : {A : Type 0} → ◌≡◌ {A = Bool} false true → A
no e = absurd cc

module _ (d : Decls) where
  abbrev Known : Assertion → Type 0
  Known A = IsTrue (assertion_known d A)

  -- each condition of a list starts from such an assertion, and so does a path, if there is one
  abbrev EachStarts : List Cond → Type 0
  EachStarts [] = Unit {0}
  EachStarts (c ∷ cs) = Known c.start × EachStarts cs

  abbrev Starts : Option Path → Type 0
  Starts None = Unit {0}
  Starts (Some p) = Known p.start

  -- a part passes on such starts
  abbrev Keeps : Part → Type 0
  Keeps part = (p : Path) → Known p.start → EachStarts (part.owes p) × Starts (part.goes_on p)

  each_append : (xs ys : List Cond) → EachStarts xs → EachStarts ys → EachStarts (xs ++ ys)
  each_append [] ys hx hy = hy
  each_append (x ∷ xs) ys hx hy = (hx.0, each_append xs ys hx.1 hy)

  each_at : (cs : List Cond) (c : Cond) → EachStarts cs → Contains cs c → Known c.start
  each_at [] c all (k, lt, e) = absurd (omega arith)
  each_at (x ∷ cs) c all (zero, lt, e) = subst (λ y. Known y.start) e all.0
  each_at (x ∷ cs) c all (suc k, lt, e) = each_at cs c all.1 (k, omega arith, e)

  -- where a path goes on after another part
  rest_keeps : (b : Part) → Keeps b → (o : Option Path) → Starts o → EachStarts (owed_from o b) × Starts (option_and_then b.goes_on o)
  rest_keeps b kb None s = (tt, tt)
  rest_keeps b kb (Some q) s = kb q s

  then_keeps : (a : Part) (ps : List Part) → Keeps a → Keeps (in_order ps) → Keeps (in_order (a ∷ ps))
  then_keeps a ps ka kb p s =
      let r = ka p s in
      let t = rest_keeps (in_order ps) kb (a.goes_on p) r.1 in
      (each_append (a.owes p) (owed_from (a.goes_on p) (in_order ps)) r.0 t.0, t.1)

  abbrev EachKeeps : List Part → Type 0
  EachKeeps [] = Unit {0}
  EachKeeps (a ∷ ps) = Keeps a × EachKeeps ps

  nothing_keeps : Keeps (in_order [])
  nothing_keeps p s = (tt, s)

  order_keeps : (ps : List Part) → EachKeeps ps → Keeps (in_order ps)
  order_keeps [] k = nothing_keeps
  order_keeps (a ∷ ps) k = then_keeps a ps k.0 (order_keeps ps k.1)

  acted_keeps : (a : Action) → Keeps (acted a)
  acted_keeps a p s = (tt, s)

  hinted_keeps : (h : Hint) → Keeps (hinted h)
  hinted_keeps h p s = (tt, s)

  either_starts : (a b : Option Path) → Starts a → Starts b → Starts (option_or a b)
  either_starts None b sa sb = sb
  either_starts (Some p) b sa sb = sa

  joined_starts : (A : Assertion) → Known A → (o : Option Path) → Starts (option_map (λ q. path_from A) o)
  joined_starts A k None = tt
  joined_starts A k (Some p) = k

  module _ (site : Site) where
    met_starts : (place : ℕ) (A : Assertion) (o : Option Path) → Starts o → EachStarts (met site place A o)
    met_starts place A None s = tt
    met_starts place A (Some p) s = (s, tt)

    loop_keeps : (t : Test) (place : ℕ) (A : Assertion) (body : Part) → Known A → Keeps body → Keeps (loop site t place A body)
    loop_keeps t place A body k kb p s =
        let q : Path = where_true t (path_from A) in
        let r = kb q k in
        ((s, each_append (body.owes q) (met site place A (body.goes_on q)) r.0 (met_starts place A (body.goes_on q) r.1)), k)

    choice_keeps : (t : Test) (ys ns : Part) (j : Option Join) → IsTrue (join_known d j) → Keeps ys → Keeps ns → Keeps (choice site t ys ns j)
    choice_keeps t ys ns None k ky kn p s =
        let y = ky (where_true t p) s in
        let n = kn (where_false t p) s in
        (each_append (ys.owes (where_true t p)) (ns.owes (where_false t p)) y.0 n.0, either_starts (ys.goes_on (where_true t p)) (ns.goes_on (where_false t p)) y.1 n.1)
    choice_keeps t ys ns (Some j) k ky kn p s =
        let y = ky (where_true t p) s in
        let n = kn (where_false t p) s in (
          each_append (ys.owes (where_true t p) ++ met site j.place j.assertion (ys.goes_on (where_true t p)))
              (ns.owes (where_false t p) ++ met site j.place j.assertion (ns.goes_on (where_false t p)))
              (each_append (ys.owes (where_true t p)) (met site j.place j.assertion (ys.goes_on (where_true t p))) y.0 (met_starts j.place j.assertion (ys.goes_on (where_true t p)) y.1))
              (each_append (ns.owes (where_false t p)) (met site j.place j.assertion (ns.goes_on (where_false t p))) n.0 (met_starts j.place j.assertion (ns.goes_on (where_false t p)) n.1)),
          joined_starts j.assertion k (option_or (ys.goes_on (where_true t p)) (ns.goes_on (where_false t p))),
        )

    list_loop_keeps : (at : ℕ) (n v p : Name) (A : Assertion) (visit : Part) → Known A → Keeps visit → Keeps (list_loop site at n v p A visit)
    list_loop_keeps at n v p A visit k kv =
        let turn : List Part =
        hinted (unfold_at (codes "lseg") n) ∷ acted (action.Load v (field_at n 0)) ∷ visit ∷ acted (action.Load v (field_at n 4)) ∷ hinted (fold_segment v v 1)
        ∷ hinted (fold_segment n v 2) ∷ hinted (Append (word_named p)) ∷ acted (action.Assign n (Local v)) ∷ [] in
        let turn_keeps : Keeps (in_order turn) =
        order_keeps turn (λ q s. (tt, s), (λ q s. (tt, s), (kv, (λ q s. (tt, s), (λ q s. (tt, s), (λ q s. (tt, s), (λ q s. (tt, s), (λ q s. (tt, s), tt)))))))) in
        order_keeps (
        hinted (unfold_at (codes "lst") p) ∷ acted (action.Assign n (Local p)) ∷ hinted (fold_segment p n 1)
        ∷ loop site (made_test at (not_null n)) at A (in_order turn) ∷ hinted (unfold_at (codes "lseg") n) ∷ hinted (fold_list p) ∷ []
        )
        (λ q s. (tt, s), (λ q s. (tt, s), (λ q s. (tt, s), (loop_keeps (made_test at (not_null n)) at A (in_order turn) k turn_keeps, (λ q s. (tt, s), (λ q s. (tt, s), tt))))))

    -- the prelude's predicate of list segments is declared
    module _ (has : IsTrue (is_some (predicate_named d (codes "lseg")))) where
      pairs : (a b : Bool) → IsTrue a → IsTrue b → IsTrue (a && b)
      pairs true b x y = y
      pairs false b x y = no x

      invariant_known : (n p : Name) (s : Seq) (u t : Name) (keep : Assertion) → Known keep → Known (list_invariant n p s u t [] keep)
      invariant_known n p s u t keep k =
          let l : Bool = is_some (predicate_named d (codes "lseg")) in
          pairs l (l && assertion_known d keep) has (pairs l (assertion_known d keep) has k)

      abbrev KindKeeps : StmtKind → Type 0
      KindKeeps k = IsTrue (kind_known d k) → (at : ℕ) → Keeps (kind_part site k at)

      abbrev StatementKeeps : Stmt → Type 0
      StatementKeeps s = IsTrue (statement_known d s) → Keeps (statement_part site s)

      list_keeps : (ss : List ((s : Stmt) × StatementKeeps s)) → IsTrue (list_all (λ b. b) (map (statement_known d) (map (λ s. s.0) ss)))
          → Keeps (in_order (map (statement_part site) (map (λ s. s.0) ss)))
      list_keeps [] k = nothing_keeps
      list_keeps (s ∷ ss) k =
          let g = and_parts (statement_known d s.0) _ k in
          then_keeps (statement_part site s.0) (map (statement_part site) (map (λ s. s.0) ss)) (s.1 g.0) (list_keeps ss g.1)

      layer : (y : StmtKind-F ((k : StmtKind) × KindKeeps k) ((s : Stmt) × StatementKeeps s))
          → IsTrue (kind_known_step d (map-StmtKind _ _ _ _ (kind_known d) (statement_known d) (map-StmtKind _ _ _ _ (λ e. e.0) (λ e. e.0) y)))
          → (at : ℕ) → Keeps (kind_part_step site (map-StmtKind _ _ _ _ (kind_part site) (statement_part site) (map-StmtKind _ _ _ _ (λ e. e.0) (λ e. e.0) y)) at)
      layer (StmtKind-F.Assign x a) k at = acted_keeps (action.Assign x a)
      layer (StmtKind-F.Compute x op a b) k at = acted_keeps (action.Compute x op a b)
      layer (StmtKind-F.Load x p) k at = acted_keeps (action.Load x p)
      layer (StmtKind-F.LoadByte x p) k at = acted_keeps (action.LoadByte x p)
      layer (StmtKind-F.Store p a) k at = acted_keeps (action.Store p a)
      layer (StmtKind-F.StoreByte p a) k at = acted_keeps (action.StoreByte p a)
      layer (StmtKind-F.Call place into target via args hints after) k at = λ p s. ((s, tt), k)
      layer (StmtKind-F.If test ys ns join) k at =
          let g = and_parts (list_all (λ b. b) (map (statement_known d) (map (λ s. s.0) ys))) _ k in
          let h = and_parts (list_all (λ b. b) (map (statement_known d) (map (λ s. s.0) ns))) _ g.1 in
          choice_keeps test (in_order (map (statement_part site) (map (λ s. s.0) ys))) (in_order (map (statement_part site) (map (λ s. s.0) ns))) join h.1 (list_keeps ys g.0) (list_keeps ns h.0)
      layer (StmtKind-F.While test place invariant body) k at =
          let g = and_parts (assertion_known d invariant) _ k in
          loop_keeps test place invariant (in_order (map (statement_part site) (map (λ s. s.0) body))) g.0 (list_keeps body g.1)
      layer (StmtKind-F.Return a) k at = λ p s. ((s, tt), tt)
      layer (StmtKind-F.Hint h) k at = hinted_keeps h
      layer (StmtKind-F.Find n v a p s u t keep body) k at =
          let g = and_parts (assertion_known d keep) _ k in
          let inner : Part = in_order (map (statement_part site) (map (λ s. s.0) body)) in
          list_loop_keeps at n v p (list_invariant n p s u t (not_yet a u) keep) (choice site (made_test at (is_key v a)) inner (in_order []) None)
          (invariant_known n p s u t keep g.0) (choice_keeps (made_test at (is_key v a)) inner (in_order []) None refl (list_keeps body g.1) nothing_keeps)
      layer (StmtKind-F.Walk n v p s u t keep body) k at =
          let g = and_parts (assertion_known d keep) _ k in
          list_loop_keeps at n v p (list_invariant n p s u t [] keep) (in_order (map (statement_part site) (map (λ s. s.0) body)))
          (invariant_known n p s u t keep g.0) (list_keeps body g.1)

      every_keeps : (s : Stmt) → StatementKeeps s
      every_keeps =
          ind-Stmt KindKeeps StatementKeeps
          (λ x y is.
          subst (λ b. IsTrue b → (at : ℕ) → Keeps (kind_part site (roll-StmtKind x) at)) (sym (fold-roll-StmtKind Bool Bool (kind_known_step d) (statement_known_step d) x))
          (subst (λ (f : ℕ → Part). IsTrue (kind_known_step d (map-StmtKind _ _ _ _ (kind_known d) (statement_known d) x)) → (at : ℕ) → Keeps (f at)) (sym (fold-roll-StmtKind (ℕ → Part) Part (kind_part_step site) part_step x))
          (subst (λ z. IsTrue (kind_known_step d (map-StmtKind _ _ _ _ (kind_known d) (statement_known d) z)) → (at : ℕ) → Keeps (kind_part_step site (map-StmtKind _ _ _ _ (kind_part site) (statement_part site) z) at)) is (layer y))))
          (λ x y is.
          subst (λ b. IsTrue b → Keeps (statement_part site (roll-Stmt x))) (sym (fold-roll-Stmt Bool Bool (kind_known_step d) (statement_known_step d) x))
          (subst (λ (part : Part). IsTrue (kind_known d x.kind) → Keeps part) (sym (fold-roll-Stmt (ℕ → Part) Part (kind_part_step site) part_step x))
          (subst (λ z. IsTrue (kind_known d z.kind) → Keeps (kind_part site z.kind z.at)) is (λ k. y.kind.1 k y.at))))

      body_keeps : (body : List Stmt) → IsTrue (list_all (statement_known d) body) → Keeps (body_part site body)
      body_keeps [] k = nothing_keeps
      body_keeps (s ∷ ss) k =
          let g = and_parts (statement_known d s) _ k in
          then_keeps (statement_part site s) (map (statement_part site) ss) (every_keeps s g.0) (body_keeps ss g.1)

-- ---- modules

module _ (m : Module) (signed : IsTrue (signatures_known (declarations m))) where
  abbrev own : Decls
  own = declarations m

  entry_known : (o : Option Signature) → ((S : Signature) → o ≡ Some S → IsTrue (assertion_known own S.pre)) → IsTrue (assertion_known own (path_at_entry o).start)
  entry_known None f = refl
  entry_known (Some S) f = f S refl

  function_starts : (f : Function) → IsTrue (list_all (statement_known own) f.body) → EachStarts own (function_conditions m f)
  function_starts f k =
      let path : Path = path_at_entry (first_signature m.signatures f.signature.bytes) in
      let start : IsTrue (assertion_known own path.start) =
      entry_known (first_signature m.signatures f.signature.bytes) (λ S e.
      let is = passed (signature_known own) m.signatures S signed (found (λ T. bytes_eq T.name.bytes f.signature.bytes) m.signatures S e).0 in
      (and_parts (assertion_known own S.pre) (assertion_known own S.post) is).0) in
      subst (λ (part : Part). EachStarts own (part.owes path)) (sym (paths_are_same (site_of m f) f.body))
      (body_keeps own (site_of m f) refl f.body k path start).0

  all_start : (fs : List Function) → IsTrue (list_all (λ f. list_all (statement_known own) f.body) fs) → EachStarts own (flat_map (function_conditions m) fs)
  all_start [] k = tt
  all_start (f ∷ fs) k =
      let g = and_parts (list_all (statement_known own) f.body) _ k in
      each_append own (function_conditions m f) (flat_map (function_conditions m) fs) (function_starts f g.0) (all_start fs g.1)

pub starts_are_known : StartsAreKnown
starts_are_known m signed bodies c listed = each_at (declarations m) (conditions m) c (all_start m signed m.functions bodies) listed

pub valid_among_all : ValidAmongAll
valid_among_all ms m c among one known listed valid =
    let g = and_parts (signatures_known (declarations m)) _ known in
    let h = and_parts (predicates_known (declarations m)) _ g.1 in
    conditions_stay_valid _ _ c (module_extends ms m among one) h.0 g.0 (starts_are_known m g.0 h.1 c listed) valid
