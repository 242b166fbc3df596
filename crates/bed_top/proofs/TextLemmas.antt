-- Lists of texts: their modules are one list at most, and none of them is refused where all are modules. And texts that are cut where they are too long.
use Rattle.std.proofs.Common.{◌≡◌, ℕ, ◌+◌, ◌≤◌, ◌<◌, Bool, true, false, List, [], ◌∷◌, length, map, take, take_all, length-take-le, nat_lt, inl, inr, refl, sym, ◌∙◌, ap, arith}
use Rattle.std.specs.List.{list_any}
use Rattle.std.proofs.lemmas.Bool.Decides.{nat_tests}
use Rattle.std.proofs.lemmas.Bool.{or_parts}
use Rattle.bed_io.specs.Files.{up_to}
use Rattle.bed_lang.specs.declared.module.Module.{Module}
use Rattle.bed_read.specs.declared.whole.ReadError.{ReadError}
use Rattle.bed_read.proofs.TextLaws.{one_module, not_refused, one_refusal}
use Rattle.bed_top.specs.Causes.{most_text, is_long, AreModules, FirstRefused}

pub one_list : (texts : List (List ℕ)) (ms ns : List Module) → AreModules texts ms → AreModules texts ns → ms ≡ ns
one_list [] [] [] a b = refl
one_list [] (m ∷ ms) ns a b = absurd a
one_list [] [] (n ∷ ns) a b = absurd b
one_list (t ∷ ts) [] ns a b = absurd a
one_list (t ∷ ts) (m ∷ ms) [] a b = absurd b
one_list (t ∷ ts) (m ∷ ms) (n ∷ ns) a b = rw (one_module t m n a.0 b.0, one_list ts ms ns a.1 b.1) refl

pub none_refused : (k : ℕ) (texts : List (List ℕ)) (ms : List Module) (file : ℕ) (text : List ℕ) (e : ReadError) → AreModules texts ms
    → FirstRefused k texts file text e → ⊥
none_refused k [] ms file text e are h = absurd h
none_refused k (t ∷ ts) [] file text e are h = absurd are
none_refused k (t ∷ ts) (m ∷ ms) file text e are (inl h) = h.2 (not_refused t m e are.0 h.3)
none_refused k (t ∷ ts) (m ∷ ms) file text e are (inr h) = none_refused (k + 1) ts ms file text e are.1 h.2

-- one text is the first that is no module, with one refusal
pub one_refused : (k : ℕ) (texts : List (List ℕ)) (file other : ℕ) (text words : List ℕ) (e f : ReadError) → FirstRefused k texts file text e
    → FirstRefused k texts other words f → (file ≡ other) × (text ≡ words) × (e ≡ f)
one_refused k [] file other text words e f a b = absurd a
one_refused k (t ∷ ts) file other text words e f (inl a) (inl b) = (a.0 ∙ sym b.0, a.1 ∙ sym b.1, one_refusal t e f a.2 b.2 a.3 b.3)
one_refused k (t ∷ ts) file other text words e f (inl a) (inr b) = absurd (a.2 (not_refused t b.0 e b.1 a.3))
one_refused k (t ∷ ts) file other text words e f (inr a) (inl b) = absurd (b.2 (not_refused t a.0 f a.1 b.3))
one_refused k (t ∷ ts) file other text words e f (inr a) (inr b) = one_refused (k + 1) ts file other text words e f a.2 b.2

-- a cut text is too long exactly where the whole one is
cut_long : (bytes : List ℕ) → is_long (up_to most_text bytes) ≡ is_long bytes
unfolding up_to
cut_long bytes = by_length (nat_lt most_text (length bytes)) refl
  where
    by_length : (b : Bool) → nat_lt most_text (length bytes) ≡ b → is_long (take (most_text + 1) bytes) ≡ is_long bytes
    by_length true t =
        let more : most_text < length bytes = grind (arith, nat_tests) in
        let cut : length (take (most_text + 1) bytes) ≡ most_text + 1 = length-take-le (most_text + 1) bytes (omega (arith, more)) in
        grind (arith, nat_tests)
    by_length false t =
        let few : length bytes ≤ most_text = grind (arith, nat_tests) in
        ap is_long (take_all (most_text + 1) bytes (omega (arith, few)))

whole_short : (bytes : List ℕ) → is_long bytes ≡ false → up_to most_text bytes ≡ bytes
unfolding up_to
whole_short bytes t = let few : length bytes ≤ most_text = grind (arith, nat_tests) in take_all (most_text + 1) bytes (omega (arith, few))

pub cut_texts : (texts : List (List ℕ)) → list_any is_long (map (up_to most_text) texts) ≡ list_any is_long texts
cut_texts [] = refl
cut_texts (t ∷ ts) = rw (cut_texts ts, cut_long t) refl

pub whole_texts : (texts : List (List ℕ)) → list_any is_long texts ≡ false → map (up_to most_text) texts ≡ texts
whole_texts [] h = refl
whole_texts (t ∷ ts) h =
    let parts = or_parts (is_long t) (list_any is_long ts) h in
    rw (whole_texts ts parts.1, whole_short t parts.0) refl

pub cut_contents : (bytes : List ℕ → List ℕ) (names : List (List ℕ)) → map (λ file. up_to most_text (bytes file)) names ≡ map (up_to most_text) (map bytes names)
cut_contents bytes [] = refl
cut_contents bytes (n ∷ ns) = rw (cut_contents bytes ns) refl
