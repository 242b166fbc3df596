-- The decoder's answers come exactly where they should.
use Rattle.std.proofs.Common.{◌≡◌, ℕ, suc, ◌<◌, ◌≤◌, ◌↔◌, Ok, Err, IfOk, List, [], ◌∷◌, ◌++◌, length, refl, sym, ◌∙◌, subst, Fits, w8, slice_index_or, arith}
use Rattle.bed_machine.specs.Instructions.{IsInstruction, BeginsWith, IsTruncated, IsUndefined}
use Rattle.bed_machine.proofs.Decoding.{AreBytes, Found, Cut, Never, answer, decoded-begins, ok_same}
use Rattle.bed_machine.proofs.InstructionLaws.{begins_row, begins_size, begins_not_truncated, size_range}
use Rattle.bed_machine.specs.Decoder.{Decoded, decoded}
use Rattle.bed_machine.specs.declared.instructions.Ins.{Ins}
use Rattle.bed_machine.specs.declared.instructions.Bad.TheVariants.{Truncated, Undefined}

-- What the decoder finds is so, and all there is

decoded-whole : (bytes : List ℕ) (i : Ins) → IsInstruction bytes i → decoded bytes ≡ Ok (i, length bytes)
decoded-whole bytes i is = decoded-begins bytes i (length bytes) (begins_row bytes i is)

decoded-truncated : (bytes : List ℕ) → AreBytes bytes → IsTruncated bytes → decoded bytes ≡ Err Truncated
decoded-truncated bytes h t = elim (answer bytes h) [
  | Found i size b e ↦ absurd (begins_not_truncated bytes i size b t)
  | Cut w e ↦ e
  | Never e k ↦ let again = k (t.next ∷ t.rest) in let whole = decoded-whole (bytes ++ t.next ∷ t.rest) t.whole t.instruction in absurd (cc)
]

-- an answer is right in each of its cases, and comes exactly in these
pub record IsExact (bytes : List ℕ) (r : Decoded) : Type 0 where
  pub found : (i : Ins) (size : ℕ) → ((r ≡ Ok (i, size)) ↔ BeginsWith bytes i size)
  pub truncated : (r ≡ Err Truncated) ↔ IsTruncated bytes
  pub undefined : (r ≡ Err Undefined) ↔ IsUndefined bytes

same_begins : (bytes : List ℕ) (i j : Ins) (n m : ℕ) → BeginsWith bytes i n → ◌≡◌ {A = Decoded} (Ok (i, n)) (Ok (j, m)) → BeginsWith bytes j m
same_begins bytes i j n m b e = let same = ok_same i j n m e in subst (λ k. BeginsWith bytes k m) same.0 (subst (λ k. BeginsWith bytes i k) same.1 b)

pub decoded-exact : (bytes : List ℕ) → AreBytes bytes → IsExact bytes (decoded bytes)
decoded-exact bytes h = elim (answer bytes h) [
  | Found i size b e ↦ record {
    found = λ j m. ((λ is. same_begins bytes i j size m b (sym e ∙ is)), decoded-begins bytes j m);
    truncated = ((λ is. absurd (cc)), (λ t. absurd (begins_not_truncated bytes i size b t)));
    undefined = ((λ is. absurd (cc)), (λ u. absurd (u.none_begins i size b)));
  }
  | Cut w e ↦ record {
    found = λ j m. ((λ is. absurd (cc)), decoded-begins bytes j m);
    truncated = ((λ is. w), (λ t. e));
    undefined = ((λ is. absurd (cc)), (λ u. absurd (u.none_continues w)));
  }
  | Never e k ↦ record {
    found = λ j m. ((λ is. absurd (cc)), decoded-begins bytes j m);
    truncated = ((λ is. absurd (cc)), decoded-truncated bytes h);
    undefined = ((λ is. record { none_begins = λ i size b. (let found = decoded-begins bytes i size b in absurd (cc)); none_continues = λ t. (let cut_off = decoded-truncated bytes h t in absurd (cc)) }), (λ u. e));
  }
]

-- For the contract of `decode`

pub are_bytes : (xs : List ℕ) → ((i : ℕ) → Fits w8 (slice_index_or xs i 0)) → AreBytes xs
are_bytes [] h = tt
are_bytes (x ∷ xs) h = (omega (arith, h 0), are_bytes xs (λ i. h (suc i)))

pub answer-exact : (bytes : List ℕ) (r : Decoded) → ((i : ℕ) → Fits w8 (slice_index_or bytes i 0)) → r ≡ decoded bytes → IsExact bytes r
answer-exact bytes r h e = subst (IsExact bytes) (sym e) (decoded-exact bytes (are_bytes bytes h))

pub answer-size : (bytes : List ℕ) (r : Decoded) → IsExact bytes r → IfOk r (λ d. (0 < d.1) × (d.1 ≤ 7))
answer-size bytes (Ok d) x = size_range bytes d.0 d.1 ((x.found d.0 d.1).0 refl)
answer-size bytes (Err e) x = tt

pub answer-within : (bytes : List ℕ) (r : Decoded) → IsExact bytes r → IfOk r (λ d. d.1 ≤ length bytes)
answer-within bytes (Ok d) x = begins_size bytes d.0 d.1 ((x.found d.0 d.1).0 refl)
answer-within bytes (Err e) x = tt
