-- What was written reads back, and what was read is written again.
use Rattle.std.specs.Prelude.{◌≡◌, ℕ, ◌<◌, ◌≤◌, true, List, length, slice_index}
use Rattle.model.specs.declared.window.Window.{Window}
use Rattle.model.specs.Answers.{granted}
use Rattle.model.specs.Modules.{Module, module_within}
use Rattle.model.specs.WindowLists.{list_answer, overlap}
use Rattle.tape.specs.Commands.{encode}
use Rattle.tape.specs.Loading.{Contents, done, decode}

-- the tape of a module within the limits, with a frame and windows that the window check accepts, reads back as these
abbrev pub ReadsBack : Type 0
ReadsBack =
    (m : Module) (f : ℕ) (ws : List Window) → module_within m ≡ true → list_answer overlap f ws ≡ granted tt →
    decode (encode m f ws) ≡ done (record { partitions = m; frame = f; windows = ws })

-- every element is a byte
abbrev pub Bytes : List ℕ → Type 0
Bytes xs = (i : ℕ) → slice_index xs i < 256

-- the window check accepts what a tape without fault holds, and the tape of that is the tape itself
abbrev pub WritesAgain : Type 0
WritesAgain =
    (xs : List ℕ) (t : Contents) → Bytes xs → decode xs ≡ done t →
    (list_answer overlap t.frame t.windows ≡ granted tt) × (encode t.partitions t.frame t.windows ≡ xs)

-- no tape of a module is longer than 1292 bytes
abbrev pub Short : Type 0
Short = (m : Module) (f : ℕ) (ws : List Window) → module_within m ≡ true → list_answer overlap f ws ≡ granted tt → length (encode m f ws) ≤ 1292

pub record RoundTrip : Type 0 where
  pub reads_back : ReadsBack
  pub writes_again : WritesAgain
  pub short : Short
