-- Soundness at work on small programs.
use Rattle.std.proofs.Common.{◌≡◌, ℕ, ◌<◌, ◌≤◌, ◌⊎◌, true, Option, Some, None, List, [], ◌∷◌, length, codes, inl, inr, refl, sym, ◌∙◌, ap, subst, subst₂, arith, zero, suc, slice_get}
use Rattle.bed_machine.specs.declared.registers.Reg.TheVariants.{Eax, Ecx, Ebp, Esi}
use Rattle.bed_machine.specs.declared.instructions.Rm.TheVariants.{Reg as InRegister, Mem}
use Rattle.bed_machine.specs.declared.instructions.Ins.TheVariants.{MovImm, MovTo, MovFrom, JmpReg}
use Rattle.bed_machine.specs.Memory.{Memory, IsMemory, empty, put_word}
use Rattle.bed_machine.specs.Instructions.{row}
use Rattle.bed_machine.specs.MachineCode.{MachineCode}
use Rattle.bed_machine.specs.Machine.{MachineState, set_register}
use Rattle.bed_lang.specs.declared.word.Name.{Name}
use Rattle.bed_lang.specs.declared.word.Word.{Number}
use Rattle.bed_lang.specs.declared.word.Var.TheVariants as var
use Rattle.bed_lang.specs.Values.{Named, Answer, set_word, value}
use Rattle.bed_lang.proofs.ValueLaws.{value-Number, value-Var}
use Rattle.bed_sat.specs.Parts.{Joins}
use Rattle.bed_sat.specs.Cells.{IsCell, AreWordsAt, IsBlock}
use Rattle.bed_sat.specs.Assertions.{blank, Holds}
use Rattle.bed_sat.specs.Frames.{Enters}
use Rattle.bed_lang.specs.Prelude.{name, word}
use Rattle.bed_sat.specs.Runs.{Steps, IsRun}
use Rattle.bed_sat.specs.Sound.{FunctionAt, world_of, IsOutsideOf, IsStart}
use Rattle.bed_sat.specs.Returns.{OfNumber, OfArgument, IsReturnProgram}
use Rattle.bed_sat.specs.Examples.{bytes_at, returning, returning_code, returning_program, start_state, no_outside, SevenExample, EightExample, identity_code, two_functions, TwoFunctionsExample, loose, loose_world, loose_call, LooseExample}
use Rattle.bed_machine.proofs.StepLaws.{Goes, goes_step}
use Rattle.bed_sat.proofs.PartLaws.{joins_comm, joins_empty, joins_union, to_empty, joins_left, joins_right, includes_trans, in_a_part}
use Rattle.bed_sat.proofs.RowLaws.{in_row, out_of_row, rows_apart, row_cell}
use Rattle.bed_sat.proofs.ReturnLaws.{return_program_sound}

zeros_cell : (a : ℕ) → a ≤ 4294967292 → IsCell a 0 (bytes_at a (0 ∷ 0 ∷ 0 ∷ 0 ∷ []))
zeros_cell a le = row_cell a 0 0 0 0 (omega arith, (omega arith, (omega arith, (omega arith, tt)))) le

seven_is : IsReturnProgram (returning_program 7 7)
seven_is = record {
  fits = omega arith;
  laid = (OfNumber 7, [], refl, refl, record { pre_binders = refl; pre_terms = refl; post_binders = refl; place = 0; word = Number 7; post_terms = refl; says = (omega arith, refl) }, refl);
  no_loops = refl;
}

function : FunctionAt
function = record { address = 0x400000; signature = returning 7; exported = true }

start_memory : IsMemory start_state.memory
start_memory x v e =
    let r = in_row 0x80000000 (0 ∷ 0 ∷ 0 ∷ 0 ∷ []) x v (omega arith, (omega arith, (omega arith, (omega arith, tt)))) e in
    (omega (arith, r.1), r.2)

starts : (returned : ℕ) → IsStart (returning_program 7 returned) no_outside function blank start_state empty
unfolding function
starts returned = record {
  listed = (0, omega arith, refl);
  state = record { regs = record { eax = omega arith; ecx = omega arith; edx = omega arith; ebx = omega arith; esp = omega arith; ebp = omega arith; esi = omega arith; edi = omega arith }; eip = omega arith; memory = start_memory };
  eip = refl;
  enters = record {
    frame = start_state.memory;
    heap = empty;
    parts = (empty, to_empty start_state.memory, (empty, to_empty empty, (empty, to_empty empty, refl)));
    back = 0;
    area = [];
    args_count = refl;
    area_count = refl;
    is_frame = (start_state.memory, empty, to_empty start_state.memory, zeros_cell 0x80000000 (omega arith), refl);
    pre = (0, (empty, empty, to_empty empty, refl, refl));
  };
  apart = λ a is. out_of_row 0x80000000 (0 ∷ 0 ∷ 0 ∷ 0 ∷ []) a (inl (omega arith));
  return_out = λ is. omega arith;
  return_new = refl;
}

pub seven_example : SevenExample
unfolding function
seven_example = (return_program_sound (returning_program 7 7) seven_is, starts 7)

no_more : (j : ℕ) (x y : Name) → slice_get (y ∷ []) j ≡ Some x → j ≡ 0
no_more zero x y e = refl
no_more (suc j) x y e = let none : ◌≡◌ {A = Option Name} None (Some x) = e in absurd cc

two_are : IsReturnProgram two_functions
two_are = record {
  fits = omega arith;
  laid = (
    OfNumber 7,
    identity_code,
    refl,
    refl,
    record { pre_binders = refl; pre_terms = refl; post_binders = refl; place = 0; word = Number 7; post_terms = refl; says = (omega arith, refl) },
    (
      OfArgument 0,
      [],
      refl,
      refl,
      record {
        pre_binders = refl;
        pre_terms = refl;
        post_binders = refl;
        place = 0;
        word = word (codes "x");
        post_terms = refl;
        says = (name (codes "x"), refl, record { parameter = name (codes "x"); at = refl; named = refl; alone = λ j x at same. no_more j x (name (codes "x")) at });
      },
      refl,
    ),
  );
  no_loops = refl;
}

pub two_functions_example : TwoFunctionsExample
two_functions_example = return_program_sound two_functions two_are

-- the run of a program that returns 8
abbrev code : MachineCode
code = record { base = 0x400000; bytes = returning_code 8 }

abbrev stored : Memory
stored = put_word start_state.memory 0x80000000 0x1000

abbrev eight : MachineState
eight = record start_state { regs = set_register start_state.regs Ecx 8; eip = 0x40000B; memory = stored }

abbrev answered : MachineState
answered = record eight { regs = set_register eight.regs Eax 8; eip = 0x40000D }

kept : Goes code start_state (record start_state { eip = 0x400006; memory = stored })
kept = record {
  place = 0x400000;
  instruction = MovTo (Mem Ebp 0) Esi;
  size = 6;
  at = refl;
  inside = (omega arith, omega arith);
  begins = record { front = row (MovTo (Mem Ebp 0) Esi); rest = _; split = refl; instruction = record { allowed = (λ e. absurd cc, omega arith); bytes_are = refl }; size_is = refl };
  gives = refl;
}

fetched : Goes code (record start_state { eip = 0x400006; memory = stored }) eight
fetched = record {
  place = 0x400006;
  instruction = MovImm Ecx 8;
  size = 5;
  at = refl;
  inside = (omega arith, omega arith);
  begins = record { front = row (MovImm Ecx 8); rest = _; split = refl; instruction = record { allowed = omega arith; bytes_are = refl }; size_is = refl };
  gives = refl;
}

set : Goes code eight answered
set = record {
  place = 0x40000B;
  instruction = MovFrom Eax (InRegister Ecx);
  size = 2;
  at = refl;
  inside = (omega arith, omega arith);
  begins = record { front = row (MovFrom Eax (InRegister Ecx)); rest = _; split = refl; instruction = record { allowed = tt; bytes_are = refl }; size_is = refl };
  gives = refl;
}

taken : Goes code answered (record answered { eip = 0x400013 })
taken = record {
  place = 0x40000D;
  instruction = MovFrom Esi (Mem Ebp 0);
  size = 6;
  at = refl;
  inside = (omega arith, omega arith);
  begins = record { front = row (MovFrom Esi (Mem Ebp 0)); rest = _; split = refl; instruction = record { allowed = (λ e. absurd cc, omega arith); bytes_are = refl }; size_is = refl };
  gives = refl;
}

left : Goes code (record answered { eip = 0x400013 }) (record answered { eip = 0x1000 })
left = record {
  place = 0x400013;
  instruction = JmpReg Esi;
  size = 2;
  at = refl;
  inside = (omega arith, omega arith);
  begins = record { front = row (JmpReg Esi); rest = _; split = refl; instruction = record { allowed = tt; bytes_are = refl }; size_is = refl };
  gives = refl;
}

states : List MachineState
states = record start_state { eip = 0x400006; memory = stored } ∷ eight ∷ answered ∷ record answered { eip = 0x400013 } ∷ record answered { eip = 0x1000 } ∷ []

run : IsRun (world_of (returning_program 7 8) no_outside) code no_outside 0x1000 start_state states
unfolding states
run = (Steps (λ e. omega arith) (goes_step kept), (Steps (λ e. omega arith) (goes_step fetched), (Steps (λ e. omega arith) (goes_step set), (Steps (λ e. omega arith) (goes_step taken), (Steps (λ e. omega arith) (goes_step left), tt)))))

no_one : (x : List ℕ) → no_outside 0 ≡ Some x → ⊥
no_one x e = cc

is_outside : IsOutsideOf (returning_program 7 8) no_outside
is_outside = record {
  imports = λ i listed. let lt = listed.1 in absurd (omega arith);
  declared = λ a x e. absurd (no_one x e);
  apart = λ a is. refl;
}

pub eight_example : EightExample
unfolding states function
eight_example sound =
    let fine = sound.fine no_outside is_outside function blank start_state empty refl (starts 8) states run 5 start_state (omega arith) in
    let post = (fine.at_return refl).leaves.post.1 in
    let labels = (returning_program 7 8).labels in
    let answer = sym (value-Var labels (set_word blank Answer 8) (var.Answer 0)) ∙ post.3.1 ∙ value-Number labels (set_word blank Answer 8) 7 in
    omega (arith, answer)

-- the call that nobody can answer enters with the word as its own, and with the word as the starter's
frame : Memory
frame = bytes_at 0x80000000 (0 ∷ 0 ∷ 0 ∷ 0 ∷ [])

zeros : Memory
zeros = bytes_at 4096 (0 ∷ 0 ∷ 0 ∷ 0 ∷ [])

parted : Joins loose_call.memory frame zeros
unfolding frame zeros
parted = joins_union (record { at = λ x. flip x ((rows_apart 4096 (0 ∷ 0 ∷ 0 ∷ 0 ∷ []) 0x80000000 (0 ∷ 0 ∷ 0 ∷ 0 ∷ []) (omega arith)).at x) })
  where
    flip : (x : ℕ) → (bytes_at 4096 (0 ∷ 0 ∷ 0 ∷ 0 ∷ []) x ≡ None) ⊎ (bytes_at 0x80000000 (0 ∷ 0 ∷ 0 ∷ 0 ∷ []) x ≡ None) → (bytes_at 0x80000000 (0 ∷ 0 ∷ 0 ∷ 0 ∷ []) x ≡ None) ⊎ (bytes_at 4096 (0 ∷ 0 ∷ 0 ∷ 0 ∷ []) x ≡ None)
    flip x (inl e) = inr e
    flip x (inr e) = inl e

is_frame : AreWordsAt 0x80000000 (0 ∷ []) frame
unfolding frame
is_frame = (bytes_at 0x80000000 (0 ∷ 0 ∷ 0 ∷ 0 ∷ []), empty, to_empty (bytes_at 0x80000000 (0 ∷ 0 ∷ 0 ∷ 0 ∷ [])), zeros_cell 0x80000000 (omega arith), refl)

-- block(4096, n) under these values, where n is the number of words
block_of : (n : ℕ) → n < 4294967296 → (h : Memory) → IsBlock 4096 n h → Holds loose_world blank h loose.pre
block_of n small h is =
    let ν = set_word blank (Named (codes "n")) n in
    let address : value loose_world.labels ν (Number 4096) ≡ 4096 = value-Number loose_world.labels ν 4096 in
    let count : value loose_world.labels ν (word (codes "n")) ≡ n = value-Var loose_world.labels ν (var.Named (name (codes "n"))) ∙ (omega arith) in
    (0, (n, (h, empty, to_empty h, subst₂ (λ a k. IsBlock a k h) (sym address) (sym count) is, refl)))

enters_one : Enters loose_world loose blank loose_call empty
unfolding frame zeros
enters_one = record {
  frame = frame;
  heap = zeros;
  parts = (zeros, parted, (empty, to_empty zeros, (empty, to_empty empty, refl)));
  back = 0;
  area = [];
  args_count = refl;
  area_count = refl;
  is_frame = is_frame;
  pre = block_of 1 (omega arith) zeros (0 ∷ [], refl, (zeros, empty, to_empty zeros, zeros_cell 4096 (omega arith), refl));
}

enters_none : Enters loose_world loose blank loose_call zeros
unfolding frame zeros
enters_none = record {
  frame = frame;
  heap = empty;
  parts = (zeros, parted, (zeros, joins_comm (to_empty zeros), (empty, to_empty zeros, refl)));
  back = 0;
  area = [];
  args_count = refl;
  area_count = refl;
  is_frame = is_frame;
  pre = block_of 0 (omega arith) empty ([], refl, refl);
}

no_byte : (h : Memory) (a v : ℕ) → h ≡ empty → h a ≡ Some v → ⊥
no_byte h a v e is = let n : empty a ≡ Some v = sym (ap (λ k. k a) e) ∙ is in absurd cc

-- a list of one word is one cell
one_word : (a : ℕ) (vs : List ℕ) (h : Memory) → length vs ≡ 1 → AreWordsAt a vs h → (old : ℕ) × IsCell a old h
one_word a [] h long is = absurd (omega arith)
one_word a (v ∷ []) h long is =
    let same : h ≡ is.0 = joins_empty (subst (Joins h is.0) is.4 is.2) in
    (v, subst (IsCell a v) (sym same) is.3)
one_word a (v ∷ u ∷ vs) h long is = absurd (omega arith)

pub loose_example : LooseExample
unfolding frame zeros
loose_example t honest =
    let few = (honest (codes "S") loose refl refl blank empty enters_one).leaves in
    let more = (honest (codes "S") loose refl refl blank zeros enters_none).leaves in
    let q = more.parts.2 in
    let there : t.memory 4096 ≡ Some 0 = (includes_trans (joins_right more.parts.1) (includes_trans (joins_right q.1) (joins_left q.2.1))).at 4096 0 refl in
    let a = few.parts in
    let b = a.2 in
    let c = b.2 in
    let cell = one_word 0x80000000 few.is_frame.0 few.frame few.is_frame.1 few.is_frame.2 in
    let post = few.post.1 in
    elim (in_a_part a.1 4096 0 there) [
      | inl in_frame ↦ let o = cell.1.only 4096 0 in_frame in omega (arith, o.0)
      | inr in_rest ↦ elim (in_a_part b.1 4096 0 in_rest) [
        | inl in_heap ↦ elim (in_a_part post.2 4096 0 in_heap) [
          | inl x ↦ no_byte _ 4096 0 post.3 x
          | inr x ↦ no_byte _ 4096 0 post.4 x
        ]
        | inr in_last ↦ elim (in_a_part c.1 4096 0 in_last) [
          | inl x ↦ no_byte empty 4096 0 refl x
          | inr x ↦ no_byte _ 4096 0 c.2 x
        ]
      ]
    ]
