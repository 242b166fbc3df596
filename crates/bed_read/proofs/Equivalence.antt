-- The written grammar of modules and the factored one have the same texts, with the same trees.
use Rattle.std.proofs.Common.{◌≡◌, ℕ, ◌-◌, Bool, true, false, List, [], ◌++◌, Option, None, refl, sym, ◌∙◌, ap, subst, append_assoc, append-nil, inl, inr, arith}
use Rattle.std.specs.Option.{option_or}
use Rattle.bed_grammar.specs.Grammar.{token, seq, ref, Value, Marked, Derives, Spells}
use Rattle.bed_grammar.proofs.Derivations as derivations
use Rattle.bed_lang.specs.declared.word.Word as word
use Rattle.bed_lang.specs.declared.word.Var.TheVariants as var
use Rattle.bed_lang.specs.declared.word.Seq as sequence
use Rattle.bed_lang.specs.declared.logic.Pure as pures
use Rattle.bed_lang.specs.declared.logic.Term as terms
use Rattle.bed_lex.specs.declared.token.Token.{Token}
use Rattle.bed_lang.specs.declared.limit.Which.{Which}
use Rattle.bed_lang.specs.declared.limit.Which.TheVariants as limit
use Rattle.bed_read.specs.declared.parts.Piece.{Piece}
use Rattle.bed_read.specs.declared.parts.Piece.TheVariants as piece
use Rattle.bed_lang.specs.declared.logic.Pure.TheVariants as pure
use Rattle.bed_read.specs.Classes.{LEFT_PAREN, RIGHT_PAREN, SAME}
use Rattle.bed_read.specs.Trees.{word_of, summed, fact_of, cell_at}
use Rattle.bed_read.specs.Written.{N, Tree, written_rule, written_action, written, past, sign, NameTerm, StartTerm, Start, Other, Inner, Part, Sum, Sums, Word, Term, Pure, Tail, Arrow, Seq, Arg, Source}
use Rattle.bed_read.specs.Factored.{rule, action, factored}

abbrev Text : Type 0
Text = Marked Token Which

abbrev W : (n : N) → Text → Tree n → Type 0
W n p v = Derives written (ref n) p v

abbrev F : (n : N) → Text → Tree n → Type 0
F n p v = Derives factored (ref n) p v

-- ---- what is written is in the factored grammar

-- the first part of a word, and the rest of its sum
abbrev Parts : (n : ℕ) (p : Text) (w : word.Word) → Type 0
Parts n p w = (x : Value Token Tree (rule (Part None n))) × (bs : List (Bool × word.Word)) × (q : Text) × (r : Text) × (p ≡ q ++ r)
    × (w ≡ word_of (summed (action (Part None n) x) bs)) × Spells factored F (rule (Part None n)) q x × F (Sums 255 n) r bs

parts : (n : ℕ) (p : Text) (w : word.Word) → F (Word n) p w → Parts n p w
parts n p w d =
    let (v, f, k) = derivations.expansion factored (Word n) p w d in
    let (u, g, (q, r, e, s, t)) = derivations.expansion factored (Sum None n) p v k in
    let (x, h, l) = derivations.expansion factored (Part None n) q u.0 s in
    (x, u.1, q, r, e, f ∙ ap word_of g ∙ ap (λ z. word_of (summed z u.1)) h, l, t)

-- a word in brackets, by its first part
inner_from_start : (n : ℕ) (p q r : Text) (w : word.Word) (v : Value Token Tree (rule (Start None n))) (bs : List (Bool × word.Word)) → p ≡ q ++ r
    → w ≡ word_of (summed (action (Start None n) v) bs) → Spells factored F (rule (Start None n)) q v → F (Sums 255 n) r bs → F (Inner n) p w
inner_from_start n p q r w (inl x) bs e f s t = subst (F (Inner n) p) (sym f) (derivations.reduction factored (Inner n) p (inl (x, inr bs)) (q, r, e, s, t))
inner_from_start n p q r w (inr x) bs e f s t = subst (F (Inner n) p) (sym f) (derivations.reduction factored (Inner n) p (inr (inr (x, bs))) (q, r, e, s, t))

inner_from_part : (n : ℕ) (p q r : Text) (w : word.Word) (v : Value Token Tree (rule (Part None n))) (bs : List (Bool × word.Word)) → p ≡ q ++ r
    → w ≡ word_of (summed (action (Part None n) v) bs) → Spells factored F (rule (Part None n)) q v → F (Sums 255 n) r bs → F (Inner n) p w
inner_from_part n p q r w (inl x) bs e f s t = subst (F (Inner n) p) (sym f) (derivations.reduction factored (Inner n) p (inr (inl (x, bs))) (q, r, e, s, t))
inner_from_part n p q r w (inr x) bs e f s t =
    let (y, g, k) = derivations.expansion factored (Start None n) q x s in
    inner_from_start n p q r w y bs e (f ∙ ap (λ z. word_of (summed z bs)) g) k t

inner_from_word : (n : ℕ) (p : Text) (w : word.Word) → F (Word n) p w → F (Inner n) p w
inner_from_word n p w d =
    let (x, bs, q, r, e, f, s, t) = parts n p w d in
    inner_from_part n p q r w x bs e f s t

part_from_other : (m : Option Which) (n : ℕ) (p : Text) (v : Value Token Tree (rule (Other m n))) → Spells factored F (rule (Other m n)) p v → F (Part m n) p (action (Other m n) v)
part_from_other m n p v s = derivations.reduction factored (Part m n) p (inr (action (Other m n) v)) (derivations.reduction factored (Start m n) p (inr (action (Other m n) v)) (derivations.reduction factored (Other m n) p v s))

part_factored : (m : Option Which) (n : ℕ) (p : Text) (v : Value Token Tree (written_rule (Part m n))) → Spells written F (written_rule (Part m n)) p v → F (Part m n) p (written_action (Part m n) v)
part_factored m n p (inl x) s = derivations.reduction factored (Part m n) p (inr (piece.Word x.0 (word.Number x.1))) (derivations.reduction factored (Start m n) p (inl x) s)
part_factored m n p (inr (inl x)) s = derivations.reduction factored (Part m n) p (inl x) s
part_factored m n p (inr (inr (inl x))) s = part_from_other m n p (inl x) s
part_factored m n p (inr (inr (inr (inl x)))) s = part_from_other m n p (inr (inl x)) s
part_factored m n p (inr (inr (inr (inr (inl x))))) s = part_from_other m n p (inr (inr (inl x))) s
part_factored m n p (inr (inr (inr (inr (inr (inl x)))))) s =
    let (p1, p2, e1, s1, (p3, p4, e2, s2, (p5, p6, e3, s3, (p7, p8, e4, s4, s5)))) = s in
    let inner : F (Inner (n - 1)) (p3 ++ (p5 ++ p7)) (word.Times x.1.0.1 x.1.1.1.0) = derivations.reduction factored (Inner (n - 1)) _ (inl (x.1.0, inl (x.1.1.0, x.1.1.1.0))) (p3, (p5 ++ p7), refl, s2, (p5, p7, refl, s3, s4)) in
    part_from_other m n p (inr (inr (inr (x.0, (word.Times x.1.0.1 x.1.1.1.0, x.1.1.1.1))))) (p1, p2, e1, s1, ((p3 ++ (p5 ++ p7)), p8, grind (arith, append_assoc), inner, s5))
part_factored m n p (inr (inr (inr (inr (inr (inr x)))))) s =
    let (p1, p2, e1, s1, (p3, p4, e2, s2, s3)) = s in
    part_from_other m n p (inr (inr (inr x))) (p1, p2, e1, s1, (p3, p4, e2, inner_from_word (n - 1) p3 x.1.0 s2, s3))

-- a cell, by the first part of its address
term_from_part : (m : Option Which) (p q r u : Text) (y : ℕ × terms.Term) (x : Value Token Tree (rule (Part m 64))) (bs : List (Bool × word.Word)) (c : Bool × word.Word) → p ≡ (q ++ r) ++ u
    → y ≡ cell_at (summed (action (Part m 64) x) bs) c → Spells factored F (rule (Part m 64)) q x → F (Sums 255 64) r bs → F Arrow u c → F (Term m) p y
term_from_part m p q r u y (inl x) bs c e f s t k =
    subst (F (Term m) p) (sym f) (derivations.reduction factored (Term m) p (inr (inr (inr (inl (cell_at (summed (piece.Name x) bs) c)))))
    (derivations.reduction factored (NameTerm m) p (x, inr (bs, c)) (q, (r ++ u), e ∙ append_assoc q r u, s, (r, u, refl, t, k))))
term_from_part m p q r u y (inr x) bs c e f s t k =
    subst (F (Term m) p) (sym f) (derivations.reduction factored (Term m) p (inr (inr (inr (inr (cell_at (summed x bs) c)))))
    (derivations.reduction factored (StartTerm m) p (x, (bs, c)) (q, (r ++ u), e ∙ append_assoc q r u, s, (r, u, refl, t, k))))

term_from_sum : (m : Option Which) (p q u : Text) (a : Piece) (c : Bool × word.Word) → p ≡ q ++ u → F (Sum m 64) q a → F Arrow u c → F (Term m) p (cell_at a c)
term_from_sum m p q u a c e d k =
    let (v, g, (q1, q2, e2, s, t)) = derivations.expansion factored (Sum m 64) q a d in
    let (x, h, l) = derivations.expansion factored (Part m 64) q1 v.0 s in
    term_from_part m p q1 q2 u (cell_at a c) x v.1 c (e ∙ ap (λ z. z ++ u) e2)
    (ap (λ z. cell_at z c) g ∙ ap (λ z. cell_at (summed z v.1) c) h) l t k

term_factored : (m : Option Which) (p : Text) (v : Value Token Tree (written_rule (Term m))) → Spells written F (written_rule (Term m)) p v → F (Term m) p (written_action (Term m) v)
term_factored m p (inl x) s = derivations.reduction factored (Term m) p (inl x) s
term_factored m p (inr (inl x)) s = derivations.reduction factored (Term m) p (inr (inl x)) s
term_factored m p (inr (inr (inl x))) s = derivations.reduction factored (Term m) p (inr (inr (inl x))) s
term_factored m p (inr (inr (inr (inl x)))) s =
    derivations.reduction factored (Term m) p (inr (inr (inr (inl (action (NameTerm m) (x.0, inl x.1)))))) (derivations.reduction factored (NameTerm m) p (x.0, inl x.1) s)
term_factored m p (inr (inr (inr (inr (inl x))))) s =
    let (p1, p2, e1, s1, s2) = s in
    term_from_sum m p p1 p2 x.0 (true, x.1.1) e1 s1 (derivations.reduction factored Arrow p2 (inl x.1) s2)
term_factored m p (inr (inr (inr (inr (inr x))))) s =
    let (p1, p2, e1, s1, s2) = s in
    term_from_sum m p p1 p2 x.0 (false, x.1.1) e1 s1 (derivations.reduction factored Arrow p2 (inr x.1) s2)

-- a fact that begins with a word, by the word's first part
pure_from_part : (n : ℕ) (p q r u : Text) (y : pures.Pure) (x : Value Token Tree (rule (Part None n))) (bs : List (Bool × word.Word)) (c : Tree (Tail n)) → p ≡ (q ++ r) ++ u
    → y ≡ fact_of (word_of (summed (action (Part None n) x) bs)) c → Spells factored F (rule (Part None n)) q x → F (Sums 255 n) r bs → F (Tail n) u c → F (Pure n) p y
pure_from_part n p q r u y (inl x) bs c e f s t k = subst (F (Pure n) p) (sym f) (derivations.reduction factored (Pure n) p (inl (x, inr (bs, c))) (q, (r ++ u), e ∙ append_assoc q r u, s, (r, u, refl, t, k)))
pure_from_part n p q r u y (inr x) bs c e f s t k = subst (F (Pure n) p) (sym f) (derivations.reduction factored (Pure n) p (inr (inr (inr (x, (bs, c))))) (q, (r ++ u), e ∙ append_assoc q r u, s, (r, u, refl, t, k)))

pure_from_word : (n : ℕ) (p q u : Text) (a : word.Word) (c : Tree (Tail n)) → p ≡ q ++ u → F (Word n) q a → F (Tail n) u c → F (Pure n) p (fact_of a c)
pure_from_word n p q u a c e d k =
    let (x, bs, q1, q2, e2, f, s, t) = parts n q a d in
    pure_from_part n p q1 q2 u (fact_of a c) x bs c (e ∙ ap (λ z. z ++ u) e2) (ap (λ z. fact_of z c) f) s t k

-- what follows the first sequence of an equation
abbrev Equated : (n : ℕ) → Text → Token × sequence.Seq → Type 0
Equated n p x = Spells factored F (seq (sign SAME) (ref (Seq n))) p x

same_from_seq : (n : ℕ) (p q u : Text) (a : sequence.Seq) (c : Value Token Tree (rule (Seq n))) (x : Token × sequence.Seq) → p ≡ q ++ u → a ≡ action (Seq n) c
    → Spells factored F (rule (Seq n)) q c → Equated n u x → F (Pure n) p (pure.Same a x.1)
same_from_seq n p q u a (inl c) x e f s k = subst (λ z. F (Pure n) p (pure.Same z x.1)) (sym f) (derivations.reduction factored (Pure n) p (inl (c, inl x)) (q, u, e, s, k))
same_from_seq n p q u a (inr c) x e f s k = subst (λ z. F (Pure n) p (pure.Same z x.1)) (sym f) (derivations.reduction factored (Pure n) p (inr (inr (inl (c, x)))) (q, u, e, s, k))

pure_factored : (n : ℕ) (p : Text) (v : Value Token Tree (written_rule (Pure n))) → Spells written F (written_rule (Pure n)) p v → F (Pure n) p (written_action (Pure n) v)
pure_factored n p (inl x) s =
    let (p1, p2, e1, s1, s2) = s in
    pure_from_word n p p1 p2 x.0 (action (Tail n) (inl x.1)) e1 s1 (derivations.reduction factored (Tail n) p2 (inl x.1) s2)
pure_factored n p (inr (inl x)) s =
    let (p1, p2, e1, s1, s2) = s in
    let (c, f, k) = derivations.expansion factored (Seq n) p1 x.0 s1 in
    same_from_seq n p p1 p2 x.0 c x.1 e1 f k s2
pure_factored n p (inr (inr (inl x))) s =
    let (p1, p2, e1, s1, s2) = s in
    pure_from_word n p p1 p2 x.0 (action (Tail n) (inr x.1)) e1 s1 (derivations.reduction factored (Tail n) p2 (inr x.1) s2)
pure_factored n p (inr (inr (inr x))) s = derivations.reduction factored (Pure n) p (inr (inl x)) s

arg_factored : (n : ℕ) (p : Text) (v : Value Token Tree (written_rule (Arg n))) → Spells written F (written_rule (Arg n)) p v → F (Arg n) p (written_action (Arg n) v)
arg_factored n p (inl x) s = derivations.reduction factored (Arg n) p (inr x) s
arg_factored n p (inr (inl x)) s =
    let first : F (Part None n) p (piece.Name x) = derivations.reduction factored (Part None n) p (inl x) s in
    let more : F (Sums 255 n) [] [] = derivations.reduction factored (Sums 255 n) [] (inr tt) refl in
    derivations.reduction factored (Arg n) p (inr (piece.Name x)) (derivations.reduction factored (Sum None n) p (piece.Name x, []) (p, [], sym (append-nil p), first, more))
arg_factored n p (inr (inr x)) s = derivations.reduction factored (Arg n) p (inl x) s

source_factored : (p : Text) (v : Value Token Tree (written_rule Source)) → Spells written F (written_rule Source) p v → F Source p (written_action Source v)
source_factored p (inl x) s = derivations.reduction factored Source p (inr (inr (inr (x, inr tt)))) (p, [], sym (append-nil p), s, refl)
source_factored p (inr (inl x)) s = derivations.reduction factored Source p (inr (inr (inr (x.0, inl x.1)))) s
source_factored p (inr (inr (inl x))) s = derivations.reduction factored Source p (inl x) s
source_factored p (inr (inr (inr (inl x)))) s = derivations.reduction factored Source p (inr (inl x)) s
source_factored p (inr (inr (inr (inr x)))) s = derivations.reduction factored Source p (inr (inr (inl x))) s

-- the texts of the factored grammar, but for the nonterminals that the written one doesn't name
abbrev Factored : (n : N) → Text → Tree n → Type 0
Factored (NameTerm m) p v = Unit {0}
Factored (StartTerm m) p v = Unit {0}
Factored (Start m n) p v = Unit {0}
Factored (Other m n) p v = Unit {0}
Factored (Inner n) p v = Unit {0}
Factored n p v = F n p v

factored_closed : (n : N) (p : Text) (v : Value Token Tree (written_rule n)) → Spells written Factored (written_rule n) p v → Factored n p (written_action n v)
factored_closed (NameTerm m) p v s = tt
factored_closed (StartTerm m) p v s = tt
factored_closed (Start m n) p v s = tt
factored_closed (Other m n) p v s = tt
factored_closed (Inner n) p v s = tt
factored_closed (Part m n) p v s = part_factored m n p v s
factored_closed (Term m) p v s = term_factored m p v s
factored_closed (Pure n) p v s = pure_factored n p v s
factored_closed (Arg n) p v s = arg_factored n p v s
factored_closed Source p v s = source_factored p v s
factored_closed n p v s = derivations.reduction factored n p v s

pub in_factored : (n : N) (p : Text) (v : Tree n) → Derives written (ref n) p v → Factored n p v
in_factored n p v d = derivations.induction written Factored factored_closed (ref n) p v d

-- ---- what is in the factored grammar is as it is written

-- what the factored grammar calls Start and Other are parts
start_is_part : (m : Option Which) (n : ℕ) (p : Text) (v : Piece) → W (Start m n) p v → W (Part m n) p v
start_is_part m n p v d = let (x, f, s) = derivations.expansion written (Start m n) p v d in subst (W (Part m n) p) (sym f) s

other_is_part : (m : Option Which) (n : ℕ) (p : Text) (v : Piece) → W (Other m n) p v → W (Part m n) p v
other_is_part m n p v d = let (x, f, s) = derivations.expansion written (Other m n) p v d in subst (W (Part m n) p) (sym f) s

other : (m : Option Which) (n : ℕ) (p : Text) (v : Value Token Tree (written_rule (Part m n))) → Spells written W (written_rule (Part m n)) p v → W (Other m n) p (written_action (Part m n) v)
other m n p v s = derivations.reduction written (Other m n) p (written_action (Part m n) v) (derivations.reduction written (Part m n) p v s)

brackets : (m : Option Which) (n : ℕ) (p p1 p2 p3 p4 : Text) (a : Token) (w : word.Word) (b : Token) (x : Value Token Tree (written_rule (Inner (n - 1)))) → p ≡ p1 ++ p2
    → Spells written W (token LEFT_PAREN (option_or m (past limit.Nesting n))) p1 a → p2 ≡ p3 ++ p4 → w ≡ written_action (Inner (n - 1)) x → Spells written W (written_rule (Inner (n - 1))) p3 x → Spells written W (sign RIGHT_PAREN) p4 b
    → W (Other m n) p (piece.Word a.at w)
brackets m n p p1 p2 p3 p4 a w b (inl y) e s1 e2 f k s2 =
    let (q1, q2, g1, k1, (q3, q4, g2, k2, k3)) = k in
    subst (λ z. W (Other m n) p (piece.Word a.at z)) (sym f) (other m n p (inr (inr (inr (inr (inr (inl (a, (y.0, (y.1.0, (y.1.1, b))))))))))
    (p1, p2, e, s1, (q1, (q3 ++ (q4 ++ p4)), grind (arith, append_assoc), k1, (q3, (q4 ++ p4), refl, k2, (q4, p4, refl, k3, s2)))))
brackets m n p p1 p2 p3 p4 a w b (inr y) e s1 e2 f k s2 =
    subst (λ z. W (Other m n) p (piece.Word a.at z)) (sym f) (other m n p (inr (inr (inr (inr (inr (inr (a, (y, b)))))))) (p1, p2, e, s1, (p3, p4, e2, k, s2)))

other_written : (m : Option Which) (n : ℕ) (p : Text) (v : Value Token Tree (rule (Other m n))) → Spells factored W (rule (Other m n)) p v → W (Other m n) p (action (Other m n) v)
other_written m n p (inl x) s = other m n p (inr (inr (inl x))) s
other_written m n p (inr (inl x)) s = other m n p (inr (inr (inr (inl x)))) s
other_written m n p (inr (inr (inl x))) s = other m n p (inr (inr (inr (inr (inl x))))) s
other_written m n p (inr (inr (inr x))) s =
    let (p1, p2, e1, s1, (p3, p4, e2, s2, s3)) = s in
    let (y, f, k) = derivations.expansion written (Inner (n - 1)) p3 x.1.0 s2 in
    brackets m n p p1 p2 p3 p4 x.0 x.1.0 x.1.1 y e1 s1 e2 f k s3

start_written : (m : Option Which) (n : ℕ) (p : Text) (v : Value Token Tree (rule (Start m n))) → Spells factored W (rule (Start m n)) p v → W (Start m n) p (action (Start m n) v)
start_written m n p (inl x) s = derivations.reduction written (Start m n) p (piece.Word x.0 (word.Number x.1)) (derivations.reduction written (Part m n) p (inl x) s)
start_written m n p (inr x) s = derivations.reduction written (Start m n) p x (other_is_part m n p x s)

part_written : (m : Option Which) (n : ℕ) (p : Text) (v : Value Token Tree (rule (Part m n))) → Spells factored W (rule (Part m n)) p v → W (Part m n) p (action (Part m n) v)
part_written m n p (inl x) s = derivations.reduction written (Part m n) p (inr (inl x)) s
part_written m n p (inr x) s = start_is_part m n p x s

sum_written : (m : Option Which) (n : ℕ) (p q r : Text) (a : Piece) (bs : List (Bool × word.Word)) → p ≡ q ++ r → W (Part m n) q a → W (Sums 255 n) r bs → W (Sum m n) p (summed a bs)
sum_written m n p q r a bs e d s = derivations.reduction written (Sum m n) p (a, bs) (q, r, e, d, s)

word_written : (n : ℕ) (p q r : Text) (a : Piece) (bs : List (Bool × word.Word)) → p ≡ q ++ r → W (Part None n) q a → W (Sums 255 n) r bs → W (Word n) p (word_of (summed a bs))
word_written n p q r a bs e d s = derivations.reduction written (Word n) p (summed a bs) (sum_written None n p q r a bs e d s)

inner_word : (n : ℕ) (p q r : Text) (a : Piece) (bs : List (Bool × word.Word)) → p ≡ q ++ r → W (Part None n) q a → W (Sums 255 n) r bs → W (Inner n) p (word_of (summed a bs))
inner_word n p q r a bs e d s = derivations.reduction written (Inner n) p (inr (word_of (summed a bs))) (word_written n p q r a bs e d s)

inner_written : (n : ℕ) (p : Text) (v : Value Token Tree (rule (Inner n))) → Spells factored W (rule (Inner n)) p v → W (Inner n) p (action (Inner n) v)
inner_written n p (inl (x, inl y)) s = derivations.reduction written (Inner n) p (inl (x, y)) s
inner_written n p (inl (x, inr y)) s =
    let (q, r, e, s1, s2) = s in
    inner_word n p q r (piece.Word x.0 (word.Number x.1)) y e (derivations.reduction written (Part None n) q (inl x) s1) s2
inner_written n p (inr (inl x)) s =
    let (q, r, e, s1, s2) = s in
    inner_word n p q r (piece.Name x.0) x.1 e (derivations.reduction written (Part None n) q (inr (inl x.0)) s1) s2
inner_written n p (inr (inr x)) s =
    let (q, r, e, s1, s2) = s in
    inner_word n p q r x.0 x.1 e (other_is_part None n q x.0 s1) s2

-- a cell, by what follows its address
arrow_written : (m : Option Which) (p q u : Text) (a : Piece) (y : Value Token Tree (written_rule Arrow)) → p ≡ q ++ u → W (Sum m 64) q a → Spells written W (written_rule Arrow) u y
    → W (Term m) p (cell_at a (written_action Arrow y))
arrow_written m p q u a (inl y) e d k = derivations.reduction written (Term m) p (inr (inr (inr (inr (inl (a, y)))))) (q, u, e, d, k)
arrow_written m p q u a (inr y) e d k = derivations.reduction written (Term m) p (inr (inr (inr (inr (inr (a, y)))))) (q, u, e, d, k)

cell_written : (m : Option Which) (p q r u t : Text) (a : Piece) (bs : List (Bool × word.Word)) (c : Bool × word.Word) → p ≡ q ++ t → t ≡ r ++ u → W (Part m 64) q a → W (Sums 255 64) r bs → W Arrow u c
    → W (Term m) p (cell_at (summed a bs) c)
cell_written m p q r u t a bs c e f d s k =
    let (y, g, l) = derivations.expansion written Arrow u c k in
    let h : p ≡ (q ++ r) ++ u = e ∙ ap (λ z. q ++ z) f ∙ sym (append_assoc q r u) in
    subst (λ z. W (Term m) p (cell_at (summed a bs) z)) (sym g) (arrow_written m p (q ++ r) u (summed a bs) y h (sum_written m 64 (q ++ r) q r a bs refl d s) l)

-- what the factored grammar calls NameTerm and StartTerm are terms
name_term_written : (m : Option Which) (p : Text) (v : Value Token Tree (rule (NameTerm m))) → Spells factored W (rule (NameTerm m)) p v → W (NameTerm m) p (action (NameTerm m) v)
name_term_written m p (x, inl y) s = derivations.reduction written (NameTerm m) p (action (NameTerm m) (x, inl y)) (derivations.reduction written (Term m) p (inr (inr (inr (inl (x, y))))) s)
name_term_written m p (x, inr y) s =
    let (p1, p2, e1, s1, (p3, p4, e2, s2, s3)) = s in
    derivations.reduction written (NameTerm m) p (action (NameTerm m) (x, inr y))
    (cell_written m p p1 p3 p4 p2 (piece.Name x) y.0 y.1 e1 e2 (derivations.reduction written (Part m 64) p1 (inr (inl x)) s1) s2 s3)

start_term_written : (m : Option Which) (p : Text) (v : Value Token Tree (rule (StartTerm m))) → Spells factored W (rule (StartTerm m)) p v → W (StartTerm m) p (action (StartTerm m) v)
start_term_written m p x s =
    let (p1, p2, e1, s1, (p3, p4, e2, s2, s3)) = s in
    derivations.reduction written (StartTerm m) p (action (StartTerm m) x) (cell_written m p p1 p3 p4 p2 x.0 x.1.0 x.1.1 e1 e2 (start_is_part m 64 p1 x.0 s1) s2 s3)

name_term_is_term : (m : Option Which) (p : Text) (v : ℕ × terms.Term) → W (NameTerm m) p v → W (Term m) p v
name_term_is_term m p v d = let (x, f, s) = derivations.expansion written (NameTerm m) p v d in subst (W (Term m) p) (sym f) s

start_term_is_term : (m : Option Which) (p : Text) (v : ℕ × terms.Term) → W (StartTerm m) p v → W (Term m) p v
start_term_is_term m p v d = let (x, f, s) = derivations.expansion written (StartTerm m) p v d in subst (W (Term m) p) (sym f) s

term_written : (m : Option Which) (p : Text) (v : Value Token Tree (rule (Term m))) → Spells factored W (rule (Term m)) p v → W (Term m) p (action (Term m) v)
term_written m p (inl x) s = derivations.reduction written (Term m) p (inl x) s
term_written m p (inr (inl x)) s = derivations.reduction written (Term m) p (inr (inl x)) s
term_written m p (inr (inr (inl x))) s = derivations.reduction written (Term m) p (inr (inr (inl x))) s
term_written m p (inr (inr (inr (inl x)))) s = name_term_is_term m p x s
term_written m p (inr (inr (inr (inr x)))) s = start_term_is_term m p x s

-- a fact, by what follows its first word
tail_written : (n : ℕ) (p q u : Text) (a : word.Word) (y : Value Token Tree (written_rule (Tail n))) → p ≡ q ++ u → W (Word n) q a → Spells written W (written_rule (Tail n)) u y
    → W (Pure n) p (fact_of a (written_action (Tail n) y))
tail_written n p q u a (inl y) e d k = derivations.reduction written (Pure n) p (inl (a, y)) (q, u, e, d, k)
tail_written n p q u a (inr y) e d k = derivations.reduction written (Pure n) p (inr (inr (inl (a, y)))) (q, u, e, d, k)

fact_written : (n : ℕ) (p q r u t : Text) (a : Piece) (bs : List (Bool × word.Word)) (c : Tree (Tail n)) → p ≡ q ++ t → t ≡ r ++ u → W (Part None n) q a → W (Sums 255 n) r bs → W (Tail n) u c
    → W (Pure n) p (fact_of (word_of (summed a bs)) c)
fact_written n p q r u t a bs c e f d s k =
    let (y, g, l) = derivations.expansion written (Tail n) u c k in
    let h : p ≡ (q ++ r) ++ u = e ∙ ap (λ z. q ++ z) f ∙ sym (append_assoc q r u) in
    subst (λ z. W (Pure n) p (fact_of (word_of (summed a bs)) z)) (sym g) (tail_written n p (q ++ r) u (word_of (summed a bs)) y h (word_written n (q ++ r) q r a bs refl d s) l)

pure_written : (n : ℕ) (p : Text) (v : Value Token Tree (rule (Pure n))) → Spells factored W (rule (Pure n)) p v → W (Pure n) p (action (Pure n) v)
pure_written n p (inl (x, inl y)) s =
    let (q, u, e, s1, s2) = s in
    derivations.reduction written (Pure n) p (inr (inl (sequence.Var (var.Named x), y))) (q, u, e, derivations.reduction written (Seq n) q (inl x) s1, s2)
pure_written n p (inl (x, inr y)) s =
    let (p1, p2, e1, s1, (p3, p4, e2, s2, s3)) = s in
    fact_written n p p1 p3 p4 p2 (piece.Name x) y.0 y.1 e1 e2 (derivations.reduction written (Part None n) p1 (inr (inl x)) s1) s2 s3
pure_written n p (inr (inl x)) s = derivations.reduction written (Pure n) p (inr (inr (inr x))) s
pure_written n p (inr (inr (inl x))) s =
    let (q, u, e, s1, s2) = s in
    derivations.reduction written (Pure n) p (inr (inl (x.0.1, x.1))) (q, u, e, derivations.reduction written (Seq n) q (inr x.0) s1, s2)
pure_written n p (inr (inr (inr x))) s =
    let (p1, p2, e1, s1, (p3, p4, e2, s2, s3)) = s in
    fact_written n p p1 p3 p4 p2 x.0 x.1.0 x.1.1 e1 e2 (start_is_part None n p1 x.0 s1) s2 s3

arg_written : (n : ℕ) (p : Text) (v : Value Token Tree (rule (Arg n))) → Spells factored W (rule (Arg n)) p v → W (Arg n) p (action (Arg n) v)
arg_written n p (inl x) s = derivations.reduction written (Arg n) p (inr (inr x)) s
arg_written n p (inr x) s = derivations.reduction written (Arg n) p (inl x) s

source_written : (p : Text) (v : Value Token Tree (rule Source)) → Spells factored W (rule Source) p v → W Source p (action Source v)
source_written p (inl x) s = derivations.reduction written Source p (inr (inr (inl x))) s
source_written p (inr (inl x)) s = derivations.reduction written Source p (inr (inr (inr (inl x)))) s
source_written p (inr (inr (inl x))) s = derivations.reduction written Source p (inr (inr (inr (inr x)))) s
source_written p (inr (inr (inr (x, inl y)))) s = derivations.reduction written Source p (inr (inl (x, y))) s
source_written p (inr (inr (inr (x, inr y)))) s =
    let (q, r, e, s1, s2) = s in
    let f : p ≡ q = e ∙ ap (λ z. q ++ z) s2 ∙ append-nil q in
    subst (λ z. W Source z (written_action Source (inl x))) (sym f) (derivations.reduction written Source q (inl x) s1)

written_closed : (n : N) (p : Text) (v : Value Token Tree (rule n)) → Spells factored W (rule n) p v → W n p (action n v)
written_closed (NameTerm m) p v s = name_term_written m p v s
written_closed (StartTerm m) p v s = start_term_written m p v s
written_closed (Start m n) p v s = start_written m n p v s
written_closed (Other m n) p v s = other_written m n p v s
written_closed (Inner n) p v s = inner_written n p v s
written_closed (Part m n) p v s = part_written m n p v s
written_closed (Term m) p v s = term_written m p v s
written_closed (Pure n) p v s = pure_written n p v s
written_closed (Arg n) p v s = arg_written n p v s
written_closed Source p v s = source_written p v s
written_closed n p v s = derivations.reduction written n p v s

pub in_written : (n : N) (p : Text) (v : Tree n) → Derives factored (ref n) p v → Derives written (ref n) p v
in_written n p v d = derivations.induction factored W written_closed (ref n) p v d
