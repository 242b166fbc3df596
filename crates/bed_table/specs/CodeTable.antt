-- The code table: the bytes of each statement. EBP is the address of the frame, ESI the return address at a function's
-- entry and at a call, EAX a function's answer, and ECX and EDX hold operands. The bytes of each instruction are those of the
-- "Intel 64 and IA-32 Architectures Software Developer's Manual", volume 2.
use Rattle.std.specs.Prelude.{ℕ, ◌+◌, ◌*◌, Bool, true, false, List, [], ◌∷◌, ◌++◌, ◌||◌, if◌then◌else◌}
use Rattle.bed_lang.specs.declared.word.Name.{Name}
use Rattle.bed_lang.specs.declared.logic.Assertion.{Assertion}
use Rattle.bed_lang.specs.declared.module.Operand.{Operand}
use Rattle.bed_lang.specs.declared.module.Operand.TheVariants.{Number, Local, Label}
use Rattle.bed_lang.specs.declared.module.Op.{Op}
use Rattle.bed_lang.specs.declared.module.Op.TheVariants.{Add, Sub, Mul, And, Or, Xor}
use Rattle.bed_lang.specs.declared.module.Rel.{Rel}
use Rattle.bed_lang.specs.declared.module.Rel.TheVariants.{Equal, Unequal, Less, AtMost}
use Rattle.bed_lang.specs.declared.module.Place.{Place}
use Rattle.bed_lang.specs.declared.module.Test.{Test}
use Rattle.bed_lang.specs.Numbers.{wrap, word_bytes}
use Rattle.bed_table.specs.Words.{displacement, slot, call_area}
use Rattle.bed_table.specs.Pieces.{Piece, straight}

-- how many bytes bring an operand into a register
abbrev pub operand_size : Operand → ℕ
operand_size (Number n) = 5
operand_size (Local x) = 6
operand_size (Label f) = 5

-- mov ecx, operand
abbrev pub into_ecx : List Name → (List ℕ → ℕ) → Operand → List ℕ
into_ecx locals labels (Number n) = 0xB9 ∷ word_bytes n
into_ecx locals labels (Local x) = 0x8B ∷ 0x8D ∷ word_bytes (slot locals x.bytes)
into_ecx locals labels (Label f) = 0xB9 ∷ word_bytes (labels f.bytes)

-- mov edx, operand
abbrev pub into_edx : List Name → (List ℕ → ℕ) → Operand → List ℕ
into_edx locals labels (Number n) = 0xBA ∷ word_bytes n
into_edx locals labels (Local x) = 0x8B ∷ 0x95 ∷ word_bytes (slot locals x.bytes)
into_edx locals labels (Label f) = 0xBA ∷ word_bytes (labels f.bytes)

-- mov [ebp+slot], ecx
abbrev pub keep_ecx : List Name → Name → List ℕ
keep_ecx locals x = 0x89 ∷ 0x8D ∷ word_bytes (slot locals x.bytes)

-- mov [ebp+0], esi: a function's entry
abbrev pub entry : Piece
entry = straight 6 (λ locals labels. 0x89 ∷ 0xB5 ∷ word_bytes 0)

-- x <- a
abbrev pub assignment : Name → Operand → Piece
assignment x a = straight (operand_size a + 6) (λ locals labels. into_ecx locals labels a ++ keep_ecx locals x)

-- add, sub, imul, and, or, xor, each ecx, edx
abbrev pub operation : Op → List ℕ
operation Add = 0x03 ∷ 0xCA ∷ []
operation Sub = 0x2B ∷ 0xCA ∷ []
operation Mul = 0x0F ∷ 0xAF ∷ 0xCA ∷ []
operation And = 0x23 ∷ 0xCA ∷ []
operation Or = 0x0B ∷ 0xCA ∷ []
operation Xor = 0x33 ∷ 0xCA ∷ []

abbrev pub operation_size : Op → ℕ
operation_size Mul = 3
operation_size _ = 2

-- x <- a op b
abbrev pub computation : Name → Op → Operand → Operand → Piece
computation x op a b =
    straight (operand_size a + operand_size b + operation_size op + 6)
    (λ locals labels. into_ecx locals labels a ++ (into_edx locals labels b ++ (operation op ++ keep_ecx locals x)))

-- x <- [a + k]: mov ecx, [ecx+k]
abbrev pub load : Name → Place → Piece
load x p =
    straight (operand_size p.base + 12)
    (λ locals labels. into_ecx locals labels p.base ++ ((0x8B ∷ 0x89 ∷ word_bytes p.disp) ++ keep_ecx locals x))

-- x <- byte [a + k]: movzx ecx, byte [ecx+k]
abbrev pub load_byte : Name → Place → Piece
load_byte x p =
    straight (operand_size p.base + 13)
    (λ locals labels. into_ecx locals labels p.base ++ ((0x0F ∷ 0xB6 ∷ 0x89 ∷ word_bytes p.disp) ++ keep_ecx locals x))

-- [a + k] <- b: mov [ecx+k], edx
abbrev pub store : Place → Operand → Piece
store p b =
    straight (operand_size p.base + operand_size b + 6)
    (λ locals labels. into_ecx locals labels p.base ++ (into_edx locals labels b ++ (0x89 ∷ 0x91 ∷ word_bytes p.disp)))

-- byte [a + k] <- b: mov byte [ecx+k], dl
abbrev pub store_byte : Place → Operand → Piece
store_byte p b =
    straight (operand_size p.base + operand_size b + 6)
    (λ locals labels. into_ecx locals labels p.base ++ (into_edx locals labels b ++ (0x88 ∷ 0x91 ∷ word_bytes p.disp)))

-- the second byte of the jump that is taken where a comparison is false: jne, je, jae, ja
abbrev pub jump_on_false : Rel → ℕ
jump_on_false Equal = 0x85
jump_on_false Unequal = 0x84
jump_on_false Less = 0x83
jump_on_false AtMost = 0x87

abbrev pub test_size : Test → ℕ
test_size t = operand_size t.left + operand_size t.right + 8

-- cmp ecx, edx, and the jump to `target` on false; the test's first byte is at `at`
abbrev pub test_bytes : List Name → (List ℕ → ℕ) → Test → ℕ → ℕ → List ℕ
test_bytes locals labels t at target =
    into_ecx locals labels t.left ++ (into_edx locals labels t.right
    ++ (0x3B ∷ 0xCA ∷ 0x0F ∷ jump_on_false t.rel ∷ word_bytes (displacement (at + test_size t) target)))

-- jmp, from the address `at`
abbrev pub jump_bytes : ℕ → ℕ → List ℕ
jump_bytes at target = 0xE9 ∷ word_bytes (displacement (at + 5) target)

-- a jump that is there only where control comes to it
abbrev pub jump_size : Bool → ℕ
jump_size falls = if falls then 5 else 0

abbrev pub jump_if : Bool → ℕ → ℕ → List ℕ
jump_if falls at target = if falls then jump_bytes at target else []

-- if test { yes } else { no }: the test jumps to the code of `no`, and after the code of `yes` a jump goes over that of `no`,
-- also where that is empty, but not where control can't come to it
abbrev pub choice : Test → Piece → Piece → Piece
choice t yes_part no_part = record {
  falls = yes_part.falls || no_part.falls;
  size = test_size t + (yes_part.size + (jump_size yes_part.falls + no_part.size));
  bytes = λ locals labels at.
      let jump_at = at + test_size t + yes_part.size in
      let no_at = jump_at + jump_size yes_part.falls in
      test_bytes locals labels t at no_at ++ (yes_part.bytes locals labels (at + test_size t)
      ++ (jump_if yes_part.falls jump_at (no_at + no_part.size) ++ no_part.bytes locals labels no_at));
  heads = λ at. yes_part.heads (at + test_size t) ++ no_part.heads (at + test_size t + yes_part.size + jump_size yes_part.falls);
}

-- while test { body }: the test jumps behind the loop, and after the body a jump goes back to the test
abbrev pub loop : Test → Assertion → Piece → Piece
loop t invariant body = record {
  falls = true;
  size = test_size t + (body.size + jump_size body.falls);
  bytes = λ locals labels at.
      let jump_at = at + test_size t + body.size in
      test_bytes locals labels t at (jump_at + jump_size body.falls)
      ++ (body.bytes locals labels (at + test_size t) ++ jump_if body.falls jump_at at);
  heads = λ at. record { address = at; invariant = invariant } ∷ body.heads (at + test_size t);
}

-- the arguments of a call, from number i on, go to the words 1 + i of the callee's frame
abbrev pub arguments_size : List Operand → ℕ
arguments_size [] = 0
arguments_size (a ∷ more) = (operand_size a + 6) + arguments_size more

abbrev pub arguments_bytes : List Name → (List ℕ → ℕ) → ℕ → List Operand → List ℕ
arguments_bytes locals labels i [] = []
arguments_bytes locals labels i (a ∷ more) =
    into_ecx locals labels a ++ ((0x89 ∷ 0x8D ∷ word_bytes (wrap (call_area locals + (4 + 4 * i)))) ++ arguments_bytes locals labels (1 + i) more)

-- what stands after the target in EDX: add ebp, call area; mov esi, return address; jmp edx; and at the return address:
-- sub ebp, call area; mov [ebp+slot], eax
abbrev pub transfer_bytes : List Name → Name → ℕ → List ℕ
transfer_bytes locals x back =
    (0x81 ∷ 0xC5 ∷ word_bytes (call_area locals)) ++ ((0xBE ∷ word_bytes back) ++ (0xFF ∷ 0xE2 ∷ []
    ++ ((0x81 ∷ 0xED ∷ word_bytes (call_area locals)) ++ (0x89 ∷ 0x85 ∷ word_bytes (slot locals x.bytes)))))

-- x <- call target(arguments)
abbrev pub call : Name → Operand → List Operand → Piece
call x target arguments = record {
  falls = true;
  size = arguments_size arguments + operand_size target + 25;
  bytes = λ locals labels at.
      arguments_bytes locals labels 0 arguments ++ (into_edx locals labels target
      ++ transfer_bytes locals x (at + arguments_size arguments + operand_size target + 13));
  heads = λ at. [];
}

-- return a: mov eax, ecx; mov esi, [ebp+0]; jmp esi
abbrev pub answer : Operand → Piece
answer a = record {
  falls = false;
  size = operand_size a + 10;
  bytes = λ locals labels at.
      into_ecx locals labels a ++ (0x8B ∷ 0xC1 ∷ 0x8B ∷ 0xB5 ∷ word_bytes 0 ++ 0xFF ∷ 0xE6 ∷ []);
  heads = λ at. [];
}
