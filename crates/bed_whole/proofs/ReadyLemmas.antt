-- The functions of modules that fit together, each with what is known of it, and as blocks.
use Rattle.std.proofs.Common.{◌≡◌, ℕ, zero, suc, ◌+◌, false, IsTrue, Option, Some, None, List, [], ◌∷◌, ◌++◌, map, flat_map, bytes_eq, Contains, inl, inr, ◌⊎◌, refl, sym, ◌∙◌, ap, ap₂, subst, arith}
use Rattle.std.proofs.lemmas.List.{append-nil}
use Rattle.std.proofs.lemmas.List.Elements.{Contains-append_left, Contains-append_right, Contains-append_cases}
use Rattle.bed_lang.specs.declared.word.Name.{Name}
use Rattle.bed_lang.specs.declared.module.Signature.{Signature}
use Rattle.bed_lang.specs.declared.module.Function.{Function}
use Rattle.bed_lang.specs.declared.module.Import.{Import}
use Rattle.bed_lang.specs.declared.module.Module.{Module}
use Rattle.bed_lang.specs.declared.condition.Decls.{Decls}
use Rattle.bed_lang.specs.declared.statement.Stmt.{Stmt}
use Rattle.bed_lang.specs.Declarations.{labels_of, all_signatures, all_declarations}
use Rattle.bed_lang.specs.Lookups.{first_signature, second_of, named_signature, function_signature}
use Rattle.bed_lang.specs.Same.{same_signature}
use Rattle.bed_table.specs.Pieces.{Piece, sequence}
use Rattle.bed_table.specs.CodeTable.{entry}
use Rattle.bed_table.specs.Code.{locals_of, body_piece, function_piece}
use Rattle.bed_table.specs.Layout.{Defined, define, all_defined, placed_from, code_of}
use Rattle.bed_sat.specs.ConditionLaws.{CodeIsSame}
use Rattle.bed_sat.specs.Written.{written}
use Rattle.bed_sat.specs.Sound.{FunctionAt, LoopAt}
use Rattle.bed_sat.specs.Linking.{functions_at, loops_at, with_function, with_loops, loop_at}
use Rattle.bed_sat.proofs.FrameLaws.{bytes_eq_is, bytes_eq_same}
use Rattle.bed_sat.proofs.ExtensionLaws.{found, finds, signature_among, label_among, module_extends}
use Rattle.bed_il.specs.declared.blocks.Block.{Block}
use Rattle.bed_il.specs.BlockMachine.{block_at}
use Rattle.bed_il.specs.Places.{block_size, blocks_size, place_of}
use Rattle.bed_il.proofs.PlaceLaws.{place_back, place_other}
use Rattle.bed_laws.specs.Activations.{FunctionSite}
use Rattle.bed_laws.specs.Keeps.{LoopHead}
use Rattle.bed_bodies.specs.Demands.{AreMet}
use Rattle.bed_bodies.specs.Bodies.{body_built}
use Rattle.bed_bodies.specs.Functions.{entry_block, end_of, function_blocks, function_heads, whole_piece, FunctionLaws}
use Rattle.bed_bodies.proofs.BodyLaws.{body_laws}
use Rattle.bed_bodies.proofs.FunctionLaws.{function_laws}
use Rattle.bed_layout.specs.Functions.{BlockFunction, function_bytes, code_bytes, StandFrom}
use Rattle.bed_layout.specs.Placed.{IsFunctionOf, IsLoopOf}
use Rattle.bed_whole.specs.Programs.{site_in, IsRegular, AreFitting}

-- ---- lists

pub first_one : {A : Type 0} (x : A) (xs : List A) → Contains (x ∷ xs) x
first_one x xs = (0, omega arith, refl)

pub later : {A : Type 0} (x : A) (xs : List A) (y : A) → Contains xs y → Contains (x ∷ xs) y
later x xs y is = Contains-append_right (x ∷ []) xs y is

map_back : {A B : Type 0} (g : A → B) (xs : List A) (y : B) → Contains (map g xs) y → (x : A) × Contains xs x × (g x ≡ y)
map_back g [] y (k, lt, e) = absurd (omega arith)
map_back g (x ∷ xs) y (zero, lt, e) = (x, (0, omega arith, refl), e)
map_back g (x ∷ xs) y (suc k, lt, e) = let r = map_back g xs y (k, omega arith, e) in (r.0, Contains-append_right (x ∷ []) xs r.0 r.1, r.2)

map_in : {A B : Type 0} (g : A → B) (xs : List A) (x : A) → Contains xs x → Contains (map g xs) (g x)
map_in g [] x (k, lt, e) = absurd (omega arith)
map_in g (y ∷ xs) x (zero, lt, e) = (0, omega arith, ap g e)
map_in g (y ∷ xs) x (suc k, lt, e) = later (g y) (map g xs) (g x) (map_in g xs x (k, omega arith, e))

pub in_flat : {A B : Type 0} (g : A → List B) (xs : List A) (x : A) (y : B) → Contains xs x → Contains (g x) y → Contains (flat_map g xs) y
in_flat g [] x y (k, lt, e) is = absurd (omega arith)
in_flat g (z ∷ xs) x y (zero, lt, e) is = Contains-append_left (g z) (flat_map g xs) y (subst (λ a. Contains (g a) y) (sym e) is)
in_flat g (z ∷ xs) x y (suc k, lt, e) is = Contains-append_right (g z) (flat_map g xs) y (in_flat g xs x y (k, omega arith, e) is)

-- ---- functions of modules that fit together

module _ (ms : List Module) (base : ℕ) (imports : List (Name × ℕ)) (fits : AreFitting ms base imports) where
  abbrev all : Decls
  all = all_declarations ms

  -- a function of one of the modules, with its own signature and the first one of that name in all modules
  pub record Ready : Type 0 where
    pub of : Module
    pub function : Function
    pub listed : Contains ms of
    pub has : Contains of.functions function
    pub regular : IsRegular of function
    pub first : Signature
    pub is_first : first_signature (all_signatures ms) function.signature.bytes ≡ Some first
    pub named : first_signature (all_signatures ms) first.name.bytes ≡ Some first
    pub forth : IsTrue (same_signature regular.signature first)
    pub back : IsTrue (same_signature first regular.signature)

  abbrev pub ready : (m : Module) → Contains ms m → (f : Function) → Contains m.functions f → Ready
  ready m listed f has =
      let r : IsRegular m f = fits.regular m listed f has in
      let x = (module_extends ms m listed fits.consistent).signatures f.signature.bytes r.signature r.declared in
      let there = found (λ (S : Signature). bytes_eq S.name.bytes f.signature.bytes) (all_signatures ms) x.0 x.1 in
      let own = found (λ (S : Signature). bytes_eq S.name.bytes f.signature.bytes) m.signatures r.signature r.declared in
      let name : x.0.name.bytes ≡ f.signature.bytes = bytes_eq_is x.0.name.bytes f.signature.bytes there.1 in
      let own_name : r.signature.name.bytes ≡ f.signature.bytes = bytes_eq_is r.signature.name.bytes f.signature.bytes own.1 in
      record {
        of = m;
        function = f;
        listed = listed;
        has = has;
        regular = r;
        first = x.0;
        is_first = x.1;
        named = subst (λ n. first_signature (all_signatures ms) n ≡ Some x.0) (sym name) x.1;
        forth = x.2;
        back = fits.consistent.signatures x.0 r.signature there.0 (signature_among ms m r.signature listed own.0) (subst (λ n. IsTrue (bytes_eq x.0.name.bytes n)) (sym own_name) there.1);
      }

  abbrev pub ready_in : (m : Module) → Contains ms m → (fs : List Function) → ((f : Function) → Contains fs f → Contains m.functions f) → List Ready
  ready_in m listed [] sub = []
  ready_in m listed (f ∷ fs) sub = ready m listed f (sub f (first_one f fs)) ∷ ready_in m listed fs (λ g is. sub g (later f fs g is))

  abbrev pub ready_all : (ks : List Module) → ((m : Module) → Contains ks m → Contains ms m) → List Ready
  ready_all [] sub = []
  ready_all (m ∷ ks) sub = ready_in m (sub m (first_one m ks)) m.functions (λ f is. is) ++ ready_all ks (λ n is. sub n (later m ks n is))

  abbrev pub defined_of : Ready → Defined
  defined_of r = define r.of.signatures r.function

  in_is : (m : Module) (listed : Contains ms m) (fs : List Function) (sub : (f : Function) → Contains fs f → Contains m.functions f) (rest : List Ready) (ds : List Defined)
      → ds ≡ map defined_of rest → map (define m.signatures) fs ++ ds ≡ map defined_of (ready_in m listed fs sub ++ rest)
  in_is m listed [] sub rest ds e = e
  in_is m listed (f ∷ fs) sub rest ds e = ap (λ l. define m.signatures f ∷ l) (in_is m listed fs (λ g is. sub g (later f fs g is)) rest ds e)

  -- they are the functions that the layout places
  pub all_is : (ks : List Module) (sub : (m : Module) → Contains ks m → Contains ms m) → all_defined ks ≡ map defined_of (ready_all ks sub)
  all_is [] sub = refl
  all_is (m ∷ ks) sub =
      in_is m (sub m (first_one m ks)) m.functions (λ f is. is) (ready_all ks (λ n is. sub n (later m ks n is))) (all_defined ks) (all_is ks (λ n is. sub n (later m ks n is)))

  -- the signature of the function's label among all declarations
  pub label_first : (r : Ready) → function_signature all r.function.name ≡ Some r.first
  label_first r =
      let f = r.function in
      let pair : Name × Name = (f.name, f.signature) in
      let own : Contains (labels_of r.of) pair =
      Contains-append_right (map (λ (i : Import). (i.name, i.signature)) r.of.imports) (map (λ (g : Function). (g.name, g.signature)) r.of.functions) pair
      (map_in (λ (g : Function). (g.name, g.signature)) r.of.functions f r.has) in
      let there = label_among ms r.of pair r.listed own in
      let other = finds (λ (l : Name × Name). bytes_eq l.0.bytes f.name.bytes) all.labels pair there (bytes_eq_same f.name.bytes) in
      let is = found (λ (l : Name × Name). bytes_eq l.0.bytes f.name.bytes) all.labels other.0 other.1 in
      let same = fits.consistent.labels other.0 pair is.0 there is.1 in
      ap (named_signature all) (ap second_of other.1) ∙ ap (first_signature (all_signatures ms)) (bytes_eq_is other.0.1.bytes f.signature.bytes same) ∙ r.is_first

  -- ---- as blocks

  abbrev pub own : Ready → FunctionSite
  own r = site_in r.of r.function r.regular.signature

  abbrev pub body : Ready → List Stmt
  body r = written r.function.body

  abbrev pub locals : Ready → List Name
  locals r = locals_of r.of.signatures r.function

  abbrev pub blocks : Ready → List Block
  blocks r = function_blocks (locals r) (body r)

  abbrev size : Ready → ℕ
  size r = (function_piece r.function).size

  abbrev pub block_function : ℕ → Ready → BlockFunction
  block_function at r = record { site = site_in r.of r.function r.first; address = at; entry = 0; blocks = blocks r; heads = function_heads (body r) }

  abbrev pub functions_from : ℕ → List Ready → List BlockFunction
  functions_from at [] = []
  functions_from at (r ∷ rs) = block_function at r ∷ functions_from (at + size r) rs

  pub of_ready : (at : ℕ) (rs : List Ready) (f : BlockFunction) → Contains (functions_from at rs) f → (r : Ready) × (x : ℕ) × (block_function x r ≡ f)
  of_ready at [] f (k, lt, e) = absurd (omega arith)
  of_ready at (r ∷ rs) f (zero, lt, e) = (r, at, e)
  of_ready at (r ∷ rs) f (suc k, lt, e) = of_ready (at + size r) rs f (k, omega arith, e)

  one_function : (at : ℕ) (r : Ready) (rs : List Ready) (h : FunctionAt)
      → (Contains (functions_at (all_signatures ms) (placed_from (at + size r) (map defined_of rs))) h → IsFunctionOf (functions_from (at + size r) rs) h)
      → Contains (with_function (Some r.first) (record { defined = defined_of r; address = at }) (functions_at (all_signatures ms) (placed_from (at + size r) (map defined_of rs)))) h
      → IsFunctionOf (functions_from at (r ∷ rs)) h
  one_function at r rs h more (zero, lt, e) =
      record { function = block_function at r; listed = first_one _ _; address = ap (λ (g : FunctionAt). g.address) e; signature = ap (λ (g : FunctionAt). g.signature) e }
  one_function at r rs h more (suc k, lt, e) =
      let q = more (k, omega arith, e) in
      record { function = q.function; listed = later (block_function at r) (functions_from (at + size r) rs) q.function q.listed; address = q.address; signature = q.signature }

  pub functions_are : (at : ℕ) (rs : List Ready) (h : FunctionAt) → Contains (functions_at (all_signatures ms) (placed_from at (map defined_of rs))) h → IsFunctionOf (functions_from at rs) h
  functions_are at [] h (k, lt, e) = absurd (omega arith)
  functions_are at (r ∷ rs) h is =
      one_function at r rs h (functions_are (at + size r) rs h)
      (subst (λ o. Contains (with_function o (record { defined = defined_of r; address = at }) (functions_at (all_signatures ms) (placed_from (at + size r) (map defined_of rs)))) h) r.is_first is)

  -- ---- by the laws of their bodies

  module _ (same : CodeIsSame) where
    pub stops : (r : Ready) → (body_piece (body r)).falls ≡ false
    stops r = ap (λ p. p.falls) (same r.function.body) ∙ r.regular.stops

    pub met : (r : Ready) → AreMet all (own r) (body_built (body r)).demands
    met r = r.regular.met all (module_extends ms r.of r.listed fits.consistent)

    pub laws : (r : Ready) → FunctionLaws (own r) (body r)
    laws r = function_laws all (own r) (body r) (met r) (stops r)

    piece_is : (r : Ready) → whole_piece (body r) ≡ function_piece r.function
    piece_is r = ap (λ (p : Piece). sequence (entry ∷ p ∷ [])) (same r.function.body)

    size_is : (r : Ready) → blocks_size (blocks r) ≡ size r
    size_is r = (laws r).lays.size ∙ ap (λ p. p.size) (piece_is r)

    none_at : (o : Option Block) → ((b : Block) → o ≡ Some b → ⊥) → o ≡ None
    none_at None out = refl
    none_at (Some b) out = absurd (out b refl)

    abbrev inner : Ready → List Block
    inner r = (body_built (body r)).code (locals r) 1 (end_of (body r))

    inner_none : (r : Ready) → block_at (inner r) (end_of (body r)) ≡ None
    inner_none r = none_at _ (λ b e. let lt = ((body_laws (body r)).spans (locals r) 1 (end_of (body r))).blocks_in (end_of (body r)) b e in omega (arith, lt.1))

    place_end : (r : Ready) (at : ℕ) → place_of (blocks r) at (end_of (body r)) ≡ at + (whole_piece (body r)).size
    place_end r at =
        let l : ℕ = end_of (body r) in
        let from : ℕ = at + block_size entry_block in
        let behind : place_of (inner r) from l ≡ from + blocks_size (inner r) =
        subst (λ (B : List Block). place_of B from l ≡ from + blocks_size (inner r)) (append-nil (inner r)) (place_back (inner r) [] from l (inner_none r)) in
        let sum : from + blocks_size (inner r) ≡ at + blocks_size (blocks r) = omega arith in
        place_other entry_block (inner r) at l (λ e. let z : 0 ≡ 1 + (body_built (body r)).count = e in omega arith)
        ∙ behind ∙ sum ∙ ap (λ n. at + n) (laws r).lays.size

    bytes_are : (r : Ready) (labels : List ℕ → ℕ) (at : ℕ) → function_bytes labels (blocks r) at ≡ (function_piece r.function).bytes (locals r) labels at
    bytes_are r labels at =
        (laws r).lays.bytes labels (place_of (blocks r) at) at (λ l b e. refl) (place_end r at) ∙ ap (λ p. p.bytes (locals r) labels at) (piece_is r)

    heads_are : (r : Ready) (at : ℕ) → map (λ (x : LoopHead). record { address = place_of (blocks r) at x.label; invariant = x.invariant }) (function_heads (body r)) ≡ (function_piece r.function).heads at
    heads_are r at = (laws r).lays.at_heads (place_of (blocks r) at) at (λ l b e. refl) ∙ ap (λ p. p.heads at) (piece_is r)

    pub code_is : (labels : List ℕ → ℕ) (at : ℕ) (rs : List Ready) → code_of labels (placed_from at (map defined_of rs)) ≡ code_bytes labels (map (λ (f : BlockFunction). f.blocks) (functions_from at rs)) at
    code_is labels at [] = refl
    code_is labels at (r ∷ rs) =
        ap₂ (λ xs ys. xs ++ ys) (sym (bytes_are r labels at))
        (code_is labels (at + size r) rs ∙ ap (λ n. code_bytes labels (map (λ (f : BlockFunction). f.blocks) (functions_from (at + size r) rs)) (at + n)) (sym (size_is r)))

    pub stand_is : (at : ℕ) (rs : List Ready) → StandFrom (functions_from at rs) at
    stand_is at [] = tt
    stand_is at (r ∷ rs) = (refl, subst (λ n. StandFrom (functions_from (at + size r) rs) (at + n)) (sym (size_is r)) (stand_is (at + size r) rs))

    -- the loops of the layout are theirs
    one_loop : (r : Ready) (at : ℕ) (l : LoopAt) → Contains (map (loop_at r.first (locals r)) ((function_piece r.function).heads at)) l
        → (y : LoopHead) × Contains (function_heads (body r)) y × (loop_at r.first (locals r) (record { address = place_of (blocks r) at y.label; invariant = y.invariant }) ≡ l)
    one_loop r at l is =
        let h = map_back (loop_at r.first (locals r)) ((function_piece r.function).heads at) l is in
        let y = map_back (λ (x : LoopHead). record { address = place_of (blocks r) at x.label; invariant = x.invariant }) (function_heads (body r)) h.0 (subst (λ hs. Contains hs h.0) (sym (heads_are r at)) h.1) in
        (y.0, y.1, ap (loop_at r.first (locals r)) y.2 ∙ h.2)

    by_loop : (at : ℕ) (r : Ready) (rs : List Ready) (l : LoopAt)
        → (Contains (loops_at (all_signatures ms) (placed_from (at + size r) (map defined_of rs))) l → IsLoopOf (functions_from (at + size r) rs) l)
        → Contains (map (loop_at r.first (locals r)) ((function_piece r.function).heads at)) l ⊎ Contains (loops_at (all_signatures ms) (placed_from (at + size r) (map defined_of rs))) l
        → IsLoopOf (functions_from at (r ∷ rs)) l
    by_loop at r rs l more (inl here) =
        let y = one_loop r at l here in
        record {
          function = block_function at r;
          listed = first_one _ _;
          head = y.0;
          among = y.1;
          address = ap (λ (k : LoopAt). k.address) y.2;
          signature = ap (λ (k : LoopAt). k.signature) y.2;
          locals = ap (λ (k : LoopAt). k.locals) y.2;
          invariant = ap (λ (k : LoopAt). k.invariant) y.2;
        }
    by_loop at r rs l more (inr there) =
        let q = more there in
        record {
          function = q.function;
          listed = later (block_function at r) (functions_from (at + size r) rs) q.function q.listed;
          head = q.head;
          among = q.among;
          address = q.address;
          signature = q.signature;
          locals = q.locals;
          invariant = q.invariant;
        }

    pub loops_are : (at : ℕ) (rs : List Ready) (l : LoopAt) → Contains (loops_at (all_signatures ms) (placed_from at (map defined_of rs))) l → IsLoopOf (functions_from at rs) l
    loops_are at [] l (k, lt, e) = absurd (omega arith)
    loops_are at (r ∷ rs) l is =
        by_loop at r rs l (loops_are (at + size r) rs l)
        (Contains-append_cases (map (loop_at r.first (locals r)) ((function_piece r.function).heads at)) (loops_at (all_signatures ms) (placed_from (at + size r) (map defined_of rs))) l
        (subst (λ o. Contains (with_loops o (record { defined = defined_of r; address = at }) (loops_at (all_signatures ms) (placed_from (at + size r) (map defined_of rs)))) l) r.is_first is))
