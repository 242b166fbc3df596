-- An image has one listing, and an address of its code one line.
use Rattle.std.proofs.Common.{◌≡◌, inl, inr, ℕ, zero, suc, ◌+◌, ◌-◌, ◌<◌, ◌≤◌, List, [], ◌∷◌, ◌++◌, length, take, slice_index, refl, sym, ap, subst, ◌∙◌, arith}
use Rattle.std.proofs.lemmas.List.{length-drop}
use Rattle.bed_lang.specs.Numbers.{wrap}
use Rattle.bed_machine.specs.MachineCode.{MachineCode, bytes_from}
use Rattle.bed_machine.proofs.InstructionLaws.{one_instruction, begins_size, size_range}
use Rattle.bed_image.specs.declared.image.Symbol.{Symbol}
use Rattle.bed_image.specs.declared.image.Image.{Image}
use Rattle.bed_disasm.specs.Text.{instruction_text}
use Rattle.bed_disasm.specs.Listing.{IsLine, Instruction, Byte, IsListed, End, Line, IsListing, name_lines, line_text, byte_says}
use Rattle.bed_disasm.specs.Laws.{BeginsOrNot, HasListing}
use Rattle.bed_disasm.proofs.BeginningLemmas.{begun}

-- how many bytes the line covers, and its text
pub one_line : (at : ℕ) (bytes : List ℕ) (size other : ℕ) (text also : List ℕ) → IsLine at bytes size text → IsLine at bytes other also → (size ≡ other) × (text ≡ also)
one_line at bytes size other text also (Instruction i begins e) (Instruction j starts f) =
    let same = one_instruction bytes i j size other begins starts in
    let line : line_text at (take size bytes) (instruction_text (wrap (at + size)) i) ≡ line_text at (take other bytes) (instruction_text (wrap (at + other)) j) =
    ap (λ n. line_text at (take n bytes) (instruction_text (wrap (at + n)) i)) same.1 ∙ ap (λ k. line_text at (take other bytes) (instruction_text (wrap (at + other)) k)) same.0 in
    (same.1, e ∙ (line ∙ sym f))
one_line at bytes size other text also (Instruction i begins e) (Byte none n f) = absurd (none i size begins)
one_line at bytes size other text also (Byte none n e) (Instruction j starts f) = absurd (none j other starts)
one_line at bytes size other text also (Byte none n e) (Byte never m f) = (n ∙ sym m, e ∙ sym f)

one_rest : (c : MachineCode) (symbols : List Symbol) (at to : ℕ) (text also : List ℕ) → IsListed c symbols at text → IsListed c symbols to also → at ≡ to → text ≡ also
one_rest c symbols at to text also End End e = refl
one_rest c symbols at to text also End (Line b n line rest inside is more) e = absurd (omega (arith, e, inside.1))
one_rest c symbols at to text also (Line a n line rest inside is more) End e = absurd (omega (arith, e, inside.1))
one_rest c symbols at to text also (Line a n line rest inside is more) (Line b m other left within too others) e =
    let same = one_line b (bytes_from c b) n m line other (subst (λ k. IsLine k (bytes_from c k) n line) e is) too in
    let next : a + n ≡ b + m = let s = same.0 in omega (arith, e, s) in
    let after : rest ≡ left = one_rest c symbols (a + n) (b + m) rest left more others next in
    ap (λ k. name_lines symbols k ++ (line ++ rest)) e ∙ (ap (λ l. name_lines symbols b ++ (l ++ rest)) same.1 ∙ ap (λ l. name_lines symbols b ++ (other ++ l)) after)

-- the whole listing
pub one_listing : (i : Image) (text also : List ℕ) → IsListing i text → IsListing i also → text ≡ also
one_listing i text also a b = one_rest i.code i.symbols i.code.base i.code.base text also a b refl

-- That an image has a listing: at each address an instruction begins, or none does.

pub begins_or_not : (bytes : List ℕ) → BeginsOrNot bytes
begins_or_not bytes = begun bytes

-- a line at an address, which covers no more bytes than there are
record HasLine (at : ℕ) (bytes : List ℕ) : Type 0 where
  size : ℕ
  text : List ℕ
  line : IsLine at bytes size text
  some : 0 < size
  within : size ≤ length bytes

line_from : (at : ℕ) (bytes : List ℕ) → 0 < length bytes → BeginsOrNot bytes → HasLine at bytes
line_from at bytes there (inl (i, n, b)) = record {
  size = n;
  text = line_text at (take n bytes) (instruction_text (wrap (at + n)) i);
  line = Instruction i b refl;
  some = (size_range bytes i n b).0;
  within = begins_size bytes i n b;
}
line_from at bytes there (inr none) = record {
  size = 1;
  text = line_text at (slice_index bytes 0 ∷ []) (byte_says (slice_index bytes 0));
  line = Byte none refl refl;
  some = omega arith;
  within = there;
}

a_line : (at : ℕ) (bytes : List ℕ) → 0 < length bytes → HasLine at bytes
a_line at bytes there = line_from at bytes there (begins_or_not bytes)

rest_listed : (c : MachineCode) (symbols : List Symbol) (left at : ℕ) → c.base ≤ at → at + left ≡ c.base + length c.bytes → (most : ℕ) → left ≤ most
    → (text : List ℕ) × IsListed c symbols at text
rest_listed c symbols zero at from is most fits = ([], subst (λ n. IsListed c symbols n []) (let e : c.base + length c.bytes ≡ at = omega (arith, is) in e) End)
rest_listed c symbols (suc left) at from is zero fits = absurd (omega (arith, fits))
rest_listed c symbols (suc left) at from is (suc most) fits =
    let inside : at < c.base + length c.bytes = omega (arith, is) in
    let long : length (bytes_from c at) ≡ suc left = omega (arith, is, from, length-drop (at - c.base) c.bytes) in
    let l = a_line at (bytes_from c at) (omega (arith, long)) in
    let some = l.some in
    let within = l.within in
    let more = rest_listed c symbols (suc left - l.size) (at + l.size) (omega (arith, from)) (omega (arith, is, within, long)) most (omega (arith, fits, some)) in
    (name_lines symbols at ++ (l.text ++ more.0), Line at l.size l.text more.0 (from, inside) l.line more.1)

pub a_listing : (i : Image) → HasListing i
a_listing i = rest_listed i.code i.symbols (length i.code.bytes) i.code.base (omega arith) refl (length i.code.bytes) (omega arith)
