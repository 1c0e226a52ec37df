-- The size of a buffer for the keys of lines.
use Rattle.std.specs.Prelude.{ℕ, length}
use Rattle.ssh_entries.specs.declared.key_view.KeyBuffer.{KeyBuffer}

-- how many bytes the buffer has, whatever they are
abbrev pub buffer_size : KeyBuffer → ℕ
buffer_size buffer = length buffer.room.bytes.items
