-- A listing line by line.
use Rattle.std.proofs.Common.{◌≡◌, ℕ, ◌+◌, List, [], ◌∷◌, ◌++◌, length, take, slice_index_or, Result, Ok, Err, refl, sym, ap, subst, ◌∙◌, append_assoc}
use Rattle.std.proofs.lemmas.List.{append-nil}
use Rattle.bed_lang.specs.Numbers.{wrap}
use Rattle.bed_machine.specs.MachineCode.{MachineCode, IsInCode, bytes_from}
use Rattle.bed_machine.specs.Instructions.{BeginsWith}
use Rattle.bed_machine.specs.declared.instructions.Ins.{Ins}
use Rattle.bed_machine.specs.declared.instructions.Bad.{Bad}
use Rattle.bed_image.specs.declared.image.Symbol.{Symbol}
use Rattle.bed_disasm.specs.Text.{instruction_text}
use Rattle.bed_disasm.specs.Listing.{Instruction, Byte, IsListed, End, Line, name_lines, line_text, byte_says}
use Rattle.bed_disasm.specs.Appended.{IsLineAppended}

-- the line of an instruction
pub instruction_appended : (at : ℕ) (bytes : List ℕ) (i : Ins) (size : ℕ) (old new : List ℕ) → BeginsWith bytes i size
    → new ≡ old ++ line_text at (take size bytes) (instruction_text (wrap (at + size)) i) → IsLineAppended at bytes size old new
instruction_appended at bytes i size old new begins e = record {
  text = line_text at (take size bytes) (instruction_text (wrap (at + size)) i);
  line = Instruction i begins refl;
  appended = e;
}

-- an answer that is an error is no instruction
ok_or_err : (i : Ins) (size : ℕ) (bad : Bad) (result : Result (Ins × ℕ) Bad) → result ≡ Err bad → result ≡ Ok (i, size) → ⊥
ok_or_err i size bad result e f = cc

-- the line of a byte at which no instruction begins
pub byte_appended : (at : ℕ) (bytes : List ℕ) (bad : Bad) (result : Result (Ins × ℕ) Bad) (old new : List ℕ)
    → ((i : Ins) (size : ℕ) → BeginsWith bytes i size → result ≡ Ok (i, size)) → result ≡ Err bad
    → new ≡ old ++ line_text at (slice_index_or bytes 0 0 ∷ []) (byte_says (slice_index_or bytes 0 0)) → IsLineAppended at bytes 1 old new
byte_appended at bytes bad result old new found e is = record {
  text = line_text at (slice_index_or bytes 0 0 ∷ []) (byte_says (slice_index_or bytes 0 0));
  line = Byte (λ i size begins. ok_or_err i size bad result e (found i size begins)) refl refl;
  appended = is;
}

-- names and a line more: what follows the text so far follows these then
pub one_more : (c : MachineCode) (symbols : List Symbol) (at size : ℕ) (text named lined : List ℕ)
    → ((rest : List ℕ) → IsListed c symbols at rest → IsListed c symbols c.base (text ++ rest))
    → named ≡ text ++ name_lines symbols at → IsLineAppended at (bytes_from c at) size named lined → IsInCode c at
    → (rest : List ℕ) → IsListed c symbols (at + size) rest → IsListed c symbols c.base (lined ++ rest)
one_more c symbols at size text named lined follows names appended inside rest listed =
    let here : IsListed c symbols at (name_lines symbols at ++ (appended.text ++ rest)) = Line at size appended.text rest inside appended.line listed in
    let joined : text ++ (name_lines symbols at ++ (appended.text ++ rest)) ≡ lined ++ rest =
    sym (ap (λ l. l ++ rest) (appended.appended ∙ ap (λ l. l ++ appended.text) names)
    ∙ (append_assoc (text ++ name_lines symbols at) appended.text rest ∙ append_assoc text (name_lines symbols at) (appended.text ++ rest))) in
    subst (λ l. IsListed c symbols c.base l) joined (follows (name_lines symbols at ++ (appended.text ++ rest)) here)

-- all is listed
pub all_listed : (c : MachineCode) (symbols : List Symbol) (at : ℕ) (text : List ℕ)
    → ((rest : List ℕ) → IsListed c symbols at rest → IsListed c symbols c.base (text ++ rest)) → at ≡ c.base + length c.bytes → IsListed c symbols c.base text
all_listed c symbols at text follows e =
    subst (λ l. IsListed c symbols c.base l) (append-nil text) (follows [] (subst (λ n. IsListed c symbols n []) (sym e) End))
