-- What is read within the limits keeps the counts of declarations.
use Rattle.std.proofs.Common.{◌≡◌, ◌≤◌, ℕ, zero, suc, length, nat_le, cond, Bool, true, false, List, ◌++◌, None, Ok, All, refl, subst, inl, inr, arith}
use Rattle.std.proofs.lemmas.Bool.{leb-true}
use Rattle.std.proofs.lemmas.List.Elements.{All-cons, All-nil}
use Rattle.bed_grammar.specs.Grammar.{ref, Value, Marked, IsUnmarked, Spells, unmarked}
use Rattle.bed_grammar.proofs.Derivations as derivations
use Rattle.bed_grammar.proofs.Sets.{unmarked_parts, unmarked-is}
use Rattle.bed_lang.specs.declared.limit.Which.{Which}
use Rattle.bed_lang.specs.declared.limit.Which.TheVariants as limit
use Rattle.bed_lang.specs.declared.module.Function as functions
use Rattle.bed_lang.specs.declared.module.Module as modules
use Rattle.bed_lang.specs.declared.module.Predicate as predicates
use Rattle.bed_lang.specs.declared.module.Signature as signatures
use Rattle.bed_lex.specs.declared.token.Kind.{Kind}
use Rattle.bed_lex.specs.declared.token.Kind.TheVariants as kind
use Rattle.bed_lex.specs.declared.token.Token.{Token}
use Rattle.bed_read.specs.Classes.{kind_class}
use Rattle.bed_read.specs.Trees.{number_of}
use Rattle.bed_read.specs.Written.{N, Tree, written, written_rule, written_action, past, Module, Signatures, Signature, NameList, Names, Reserving, For, Bind, Binds, MoreBinds, BindList, Predicates, Predicate, Functions, Function, Locals, Nam}
use Rattle.bed_read.specs.Reading.{KeepsCounts, ReadsModule}

abbrev Text : Type 0
Text = Marked Token Which

abbrev SmallSignature : signatures.Signature → Type 0
SmallSignature s = (length s.params ≤ 60) × (length s.logical ≤ 60) × (s.reserve ≤ 4096)

abbrev SmallPredicate : predicates.Predicate → Type 0
SmallPredicate p = length p.params ≤ 60

abbrev SmallFunction : functions.Function → Type 0
SmallFunction f = length f.locals ≤ 60

-- what the texts of a nonterminal keep: a name or bind past a limit has its mark
abbrev Kept : (n : N) → Text → Tree n → Type 0
Kept (Nam m) p v = IsUnmarked p → m ≡ None
Kept (Bind m) p v = IsUnmarked p → m ≡ None
Kept (Names w k) p v = IsUnmarked p → length v ≤ k
Kept NameList p v = IsUnmarked p → length v ≤ 60
Kept Locals p v = IsUnmarked p → length v ≤ 60
Kept Reserving p v = IsUnmarked p → v ≤ 4096
Kept (MoreBinds k) p v = IsUnmarked p → length v ≤ k
Kept Binds p v = IsUnmarked p → length v ≤ 60
Kept BindList p v = IsUnmarked p → length v ≤ 60
Kept For p v = IsUnmarked p → length v ≤ 60
Kept Signature p v = IsUnmarked p → SmallSignature v
Kept Signatures p v = IsUnmarked p → All SmallSignature v
Kept Predicate p v = IsUnmarked p → SmallPredicate v
Kept Predicates p v = IsUnmarked p → All SmallPredicate v
Kept Function p v = IsUnmarked p → SmallFunction v
Kept Functions p v = IsUnmarked p → All SmallFunction v
Kept Module p v = IsUnmarked p → KeepsCounts v
Kept _ p v = Unit {0}

-- both parts of an unmarked text are unmarked
parted : (p q r : Text) → p ≡ q ++ r → IsUnmarked p → IsUnmarked q × IsUnmarked r
parted p q r e u = unmarked_parts q r (subst (λ z. IsUnmarked z) e u)

not_past : (w : Which) (k : ℕ) → past w k ≡ None → 1 ≤ k
not_past w zero h = cc
not_past w (suc k) h = omega arith

small_number : (n : ℕ) (b : Bool) → nat_le n 4096 ≡ b → ◌≡◌ {A = ℕ} (cond b 1 2) 1 → n ≤ 4096
small_number n true e h = leb-true n 4096 e
small_number n false e h = absurd (omega arith)

reserved : (k : Kind) → kind_class k ≡ 1 → number_of k ≤ 4096
reserved (kind.Number n) h = small_number n (nat_le n 4096) refl h
reserved (kind.Name x) h = omega arith
reserved (kind.Word w) h = omega arith
reserved (kind.Fresh n) h = omega arith

kept_signature : (p : Text) (v : Value Token Tree (written_rule Signature)) → Spells written Kept (written_rule Signature) p v → IsUnmarked p → SmallSignature (written_action Signature v)
kept_signature p v (p1, q1, e1, s1, (p2, q2, e2, s2, (p3, q3, e3, s3, (p4, q4, e4, s4, (p5, q5, e5, s5, (p6, q6, e6, s6, (p7, q7, e7, s7, s8))))))) u =
    let u4 = (parted q2 p3 q3 e3 (parted q1 p2 q2 e2 (parted p p1 q1 e1 u).1).1).1 in
    let u6 = (parted q4 p5 q5 e5 (parted q3 p4 q4 e4 u4).1).1 in
    (s4 (parted q3 p4 q4 e4 u4).0, s7 (parted q6 p7 q7 e7 (parted q5 p6 q6 e6 u6).1).0, s6 (parted q5 p6 q6 e6 u6).0)

kept_predicate : (p : Text) (v : Value Token Tree (written_rule Predicate)) → Spells written Kept (written_rule Predicate) p v → IsUnmarked p → SmallPredicate (written_action Predicate v)
kept_predicate p v (p1, q1, e1, s1, (p2, q2, e2, s2, (p3, q3, e3, s3, (p4, q4, e4, s4, s5)))) u =
    s4 (parted q3 p4 q4 e4 (parted q2 p3 q3 e3 (parted q1 p2 q2 e2 (parted p p1 q1 e1 u).1).1).1).0

kept_function : (p : Text) (v : Value Token Tree (written_rule Function)) → Spells written Kept (written_rule Function) p v → IsUnmarked p → SmallFunction (written_action Function v)
kept_function p v (p1, q1, e1, s1, (p2, q2, e2, s2, (p3, q3, e3, s3, (p4, q4, e4, s4, (p5, q5, e5, s5, (p6, q6, e6, s6, s7)))))) u =
    let u4 = (parted q2 p3 q3 e3 (parted q1 p2 q2 e2 (parted p p1 q1 e1 u).1).1).1 in
    s6 (parted q5 p6 q6 e6 (parted q4 p5 q5 e5 (parted q3 p4 q4 e4 u4).1).1).0

kept_module : (p : Text) (v : Value Token Tree (written_rule Module)) → Spells written Kept (written_rule Module) p v → IsUnmarked p → KeepsCounts (written_action Module v)
kept_module p v (p1, q1, e1, s1, (p2, q2, e2, s2, (p3, q3, e3, s3, (p4, q4, e4, s4, (p5, q5, e5, s5, (p6, q6, e6, s6, s7)))))) u =
    let u4 = (parted q2 p3 q3 e3 (parted q1 p2 q2 e2 (parted p p1 q1 e1 u).1).1).1 in
    let u6 = (parted q4 p5 q5 e5 (parted q3 p4 q4 e4 u4).1).1 in
    record { signatures = s4 (parted q3 p4 q4 e4 u4).0; predicates = s5 (parted q4 p5 q5 e5 (parted q3 p4 q4 e4 u4).1).0; functions = s7 (parted q5 p6 q6 e6 u6).1 }

kept : (n : N) (p : Text) (v : Value Token Tree (written_rule n)) → Spells written Kept (written_rule n) p v → Kept n p (written_action n v)
kept (Nam m) p v (e, c) = λ u. (subst (λ z. IsUnmarked z) e u).0
kept (Bind m) p v (q, r, e, s, t) = λ u. s (parted p q r e u).0
kept (Names w k) p (inl v) (q, r, e, s, (q2, r2, e2, s2, t2)) = λ u.
    let (a, b) = parted r q2 r2 e2 (parted p q r e u).1 in
    let h = not_past w k (s2 a) in
    let l = t2 b in
    omega arith
kept (Names w k) p (inr v) s = λ u. omega arith
kept NameList p (inl v) (q, r, e, s, t) = λ u. let l = t (parted p q r e u).1 in omega arith
kept NameList p (inr v) s = λ u. omega arith
kept Locals p (inl v) (q, r, e, s, (q2, r2, e2, s2, t2)) = λ u. let l = t2 (parted r q2 r2 e2 (parted p q r e u).1).1 in omega arith
kept Locals p (inr v) s = λ u. omega arith
kept Reserving p (inl (v, inl t)) (q, r, e, s, (e2, c)) = λ u. reserved t.kind c
kept Reserving p (inl (v, inr t)) (q, r, e, s, (e2, c)) = λ u. let h = (subst (λ z. IsUnmarked z) e2 (parted p q r e u).1).0 in absurd (cc)
kept Reserving p (inr v) s = λ u. omega arith
kept (MoreBinds k) p (inl v) (q, r, e, s, (q2, r2, e2, s2, t2)) = λ u.
    let (a, b) = parted r q2 r2 e2 (parted p q r e u).1 in
    let h = not_past limit.Params k (s2 a) in
    let l = t2 b in
    omega arith
kept (MoreBinds k) p (inr v) s = λ u. omega arith
kept Binds p v (q, r, e, s, t) = λ u. let l = t (parted p q r e u).1 in omega arith
kept BindList p (inl v) s = λ u. s u
kept BindList p (inr v) s = λ u. omega arith
kept For p (inl v) (q, r, e, s, t) = λ u. t (parted p q r e u).1
kept For p (inr v) s = λ u. omega arith
kept Signature p v s = λ u. kept_signature p v s u
kept Signatures p (inl v) (q, r, e, s, t) = λ u. let (a, b) = parted p q r e u in All-cons SmallSignature v.0 v.1 (s a) (t b)
kept Signatures p (inr v) s = λ u. All-nil SmallSignature
kept Predicate p v s = λ u. kept_predicate p v s u
kept Predicates p (inl v) (q, r, e, s, t) = λ u. let (a, b) = parted p q r e u in All-cons SmallPredicate v.0 v.1 (s a) (t b)
kept Predicates p (inr v) s = λ u. All-nil SmallPredicate
kept Function p v s = λ u. kept_function p v s u
kept Functions p (inl v) (q, r, e, s, t) = λ u. let (a, b) = parted p q r e u in All-cons SmallFunction v.0 v.1 (s a) (t b)
kept Functions p (inr v) s = λ u. All-nil SmallFunction
kept Module p v s = λ u. kept_module p v s u
kept n p v s = tt

-- what is read keeps the counts
pub read_counts : (text : List ℕ) (m : modules.Module) → ReadsModule text (Ok m) → KeepsCounts m
read_counts text m (ts, l, x) = derivations.induction written Kept kept (ref Module) (unmarked ts) m x.0 (unmarked-is Which ts)
