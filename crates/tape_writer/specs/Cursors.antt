-- What is put into a buffer at a cursor.
use Rattle.std.specs.Prelude.{◌≡◌, ℕ, ◌+◌, ◌≤◌, List, ◌++◌, length, take, drop}
use Rattle.tape_writer.specs.declared.writer.Cursor.{Cursor}

-- the buffer has room for some bytes from the cursor's place on
abbrev pub Room : List ℕ → Cursor → Type 0
Room bs c = c.at + length bs ≤ length c.buffer.now

-- Some bytes were put at the cursor's place, and behind them the buffer is as it was.
pub record Puts (bs : List ℕ) (old new : Cursor) : Type 0 where
  pub same : new.buffer.ghost_name ≡ old.buffer.ghost_name
  pub size : length new.buffer.now ≡ length old.buffer.now
  pub at : new.at ≡ old.at + length bs
  pub front : take new.at new.buffer.now ≡ take old.at old.buffer.now ++ bs
  pub back : drop new.at new.buffer.now ≡ drop new.at old.buffer.now
