-- RCC_PLLxCFGR, RCC_PLLxDIVR and RCC_PLLxFRACR as 32-bit words: document 02, Item 1, by RM0492. Each field by its first bit and its width.
use Rattle.std.specs.Prelude.{List, [], ◌∷◌, ℕ, ◌+◌, ◌-◌, ◌*◌, ◌%◌, ◌^◌, ltb}
use Rattle.rules.specs.Document01.Entries.{bit}
use Rattle.pll_registers.specs.declared.PllFields.{PllFields}

-- a value in so many bits, from a bit on
abbrev pub placed : (at width v : ℕ) → ℕ
placed at width v = v % 2 ^ width * 2 ^ at

-- an output's enable, by its divider
abbrev pub enabled : ℕ → ℕ
enabled divider = bit (ltb 0 divider)

-- source, range, FRACEN, VCOSEL, M, and the enables of P, Q, R
unfoldable pub cfgr_of : PllFields → ℕ
cfgr_of f =
    placed 0 2 f.src + placed 2 2 f.rge + placed 4 1 f.fracen + placed 5 1 f.vcosel + placed 8 6 f.m
    + placed 16 1 (enabled f.p) + placed 17 1 (enabled f.q) + placed 18 1 (enabled f.r)

-- N − 1, P − 1, Q − 1, R − 1; 0 for a divider that is not used
unfoldable pub divr_of : PllFields → ℕ
divr_of f = placed 0 9 (f.n - 1) + placed 9 7 (f.p - 1) + placed 16 7 (f.q - 1) + placed 24 7 (f.r - 1)

-- FRACN
unfoldable pub fracr_of : PllFields → ℕ
fracr_of f = placed 3 13 f.fracn

-- the three words of one PLL
abbrev pub packed : PllFields → List ℕ
packed f = cfgr_of f ∷ divr_of f ∷ fracr_of f ∷ []
