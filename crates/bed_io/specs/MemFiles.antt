-- What files in memory with failing calls are seen as.
use Rattle.std.specs.Prelude.{true, ◌==◌, length}
use Rattle.bed_io.specs.Calls.{CallsState}
use Rattle.bed_io.specs.Files.{FilesState}
use Rattle.bed_io.specs.Folder.{held_in}
use Rattle.bed_io.specs.declared.mem_files.MemFiles.{MemFiles}

-- the reads, writes and appends, which share one numbering
abbrev pub calls_of : MemFiles → CallsState
calls_of files = record { made = files.calls.made.count; to_fail = files.calls.to_fail.items }

-- the files; they are calm exactly where no call is to fail
abbrev pub files_of : MemFiles → FilesState
files_of files = record { tells = true; calm = length files.calls.to_fail.items == 0; held = held_in files.folder; read_faults = files.read_faults.count; write_faults = files.write_faults.count }
