-- RM0492, RCC_RSR: the bits of the reset flags, and of RMVF, which clears them. The manual is not at hand. Document 01 and reset_reason.rs name the
-- flags and not their bits, so these seven numbers are in neither: with a manual, compare them first.
use Rattle.std.specs.Prelude.{ℕ, ◌/◌, ◌%◌, ◌^◌}

-- remove the reset flags
abbrev pub RMVF : ℕ
RMVF = 23

-- pin
abbrev pub PIN : ℕ
PIN = 26

-- brown-out
abbrev pub BOR : ℕ
BOR = 27

-- software
abbrev pub SFT : ℕ
SFT = 28

-- independent watchdog
abbrev pub IWDG : ℕ
IWDG = 29

-- window watchdog
abbrev pub WWDG : ℕ
WWDG = 30

-- illegal low-power entry
abbrev pub LPWR : ℕ
LPWR = 31

-- one bit of a word
abbrev pub bit_of : (word bit : ℕ) → ℕ
bit_of word bit = word / 2 ^ bit % 2
