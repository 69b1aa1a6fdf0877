-- Reader and writer undo each other: what one says of the bytes that the other leaves. Assumes nothing.
use Rattle.std.specs.Prelude.{ℕ, length, true, List, Ok, ◌≡◌}
use Rattle.lists.specs.Tests.{all_in}
use Rattle.command.specs.declared.Command.{Command}
use Rattle.command.specs.declared.Fields.{Fields}
use Rattle.command.specs.Commands.{command_size, fields_leave, is_byte, read_of, shown_fields, write_fields}
use Rattle.command.specs.Commands.{write_leaves, write_of}

-- Every command that is written, over whatever bytes, reads back as that command.
abbrev pub WrittenReads : Type 0
WrittenReads = (lent : List ℕ) (command : Command) → write_of lent command ≡ Ok tt → read_of (write_leaves lent command) ≡ Ok command

-- Every five bytes that read as a command are what writing it leaves, over whatever five bytes, and it is written.
pub record WritesBack (bytes lent : List ℕ) (command : Command) : Type 0 where
  pub says : write_of lent command ≡ Ok tt
  pub leaves : write_leaves lent command ≡ bytes

abbrev pub ReadWrites : Type 0
ReadWrites =
    (bytes lent : List ℕ) (command : Command) → all_in is_byte bytes ≡ true → length lent ≡ command_size
    → read_of bytes ≡ Ok command → WritesBack bytes lent command

-- The same of fields: what is written reads back as them, and what shows fields is what writing them leaves.
abbrev pub WrittenShows : Type 0
WrittenShows = (lent : List ℕ) (f : Fields) → write_fields lent f ≡ Ok tt → shown_fields (fields_leave lent f) ≡ Ok f

pub record FieldsWriteBack (bytes lent : List ℕ) (f : Fields) : Type 0 where
  pub says : write_fields lent f ≡ Ok tt
  pub leaves : fields_leave lent f ≡ bytes

abbrev pub ShownWrites : Type 0
ShownWrites =
    (bytes lent : List ℕ) (f : Fields) → all_in is_byte bytes ≡ true → length lent ≡ command_size
    → shown_fields bytes ≡ Ok f → FieldsWriteBack bytes lent f
