-- What files in memory that never fail are seen as.
use Rattle.std.specs.Prelude.{true}
use Rattle.bed_io.specs.Files.{FilesState}
use Rattle.bed_io.specs.Folder.{held_in}
use Rattle.bed_io.specs.declared.calm_files.CalmFiles.{CalmFiles}

abbrev pub files_of : CalmFiles → FilesState
files_of files = record { tells = true; calm = true; held = held_in files.folder; read_faults = 0; write_faults = 0 }
