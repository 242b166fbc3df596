use Rattle.std.proofs.Common.{refl}
use Rattle.bed_il.proofs.PlaceLaws.{laid_size}
use Rattle.bed_il.proofs.laws.bytes.Goals as goal

pub returns-clause-instructions : goal.returns-clause-instructions
returns-clause-instructions c functions places = record {
  save_return = refl;
  take_return = refl;
  number_first = λ n. refl;
  number_second = λ n. refl;
  function_first = λ f. refl;
  function_second = λ f. refl;
  slot_first = λ d. refl;
  slot_second = λ d. refl;
  keep = λ d. refl;
  keep_answer = λ d. refl;
  add = refl;
  sub = refl;
  mul = refl;
  and = refl;
  or = refl;
  xor = refl;
  load_word = λ d. refl;
  load_byte = λ d. refl;
  store_word = λ d. refl;
  store_byte = λ d. refl;
  raise_sp = λ n. refl;
  lower_sp = λ n. refl;
  return_to = λ l. refl;
  set_answer = refl;
}

pub returns-clause-jumps : goal.returns-clause-jumps
returns-clause-jumps c places at = record {
  goto = λ l. refl;
  fall = λ l. refl;
  equal = λ y n. refl;
  unequal = λ y n. refl;
  less = λ y n. refl;
  at_most = λ y n. refl;
  by_esi = refl;
  by_edx = refl;
}

pub returns-clause-sizes : goal.returns-clause-sizes
returns-clause-sizes c = laid_size
