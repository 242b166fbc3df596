use Rattle.std.proofs.Common.{ap}
use Rattle.std.specs.Option.{option_map}
use Rattle.bed_io.proofs.Keys.{other_names}
use Rattle.bed_io.proofs.folder.Folder.insert.Goals as goal

pub returns-clause-others : goal.returns-clause-others
returns-clause-others c = λ other differs. ap (option_map (λ bytes. bytes.items)) (other_names c.args.self.now.files c.insert.new.self c.in_ok-name.name.items _ c.in_ok-insert.ensures.updates other (rw c.in_ok-name.ensures.items differs))
