use Rattle.bed_table.proofs.SizeLaws.{statements_are_sized, bodies_are_sized, bodies_are_sequences, functions_are_sized, code_is_sized}
use Rattle.bed_table.proofs.ReturnLaws.{returns_are_sized, returns_are_short}
use Rattle.bed_table.proofs.laws.sizes.Goals as goal

pub returns : goal.returns
returns c = record {
  statements = statements_are_sized;
  bodies = bodies_are_sized;
  sequences = bodies_are_sequences;
  functions = functions_are_sized;
  code = code_is_sized;
  returns = returns_are_sized;
  short = returns_are_short;
}
