-- The keys of a request's words, and the names that values have. docs/CODES.md, A request in words.
use Rattle.std.specs.Prelude.{List, [], ◌∷◌, ℕ, map, codes, get_or}
use Prim.Native.String.{String}
use Rattle.text.specs.Names.{table_of}
use Rattle.ask.specs.declared.Key.{Key}
use Rattle.ask.specs.declared.Kind.{Kind}
use Rattle.ask.specs.declared.Kind.TheVariants.{Hertz, Nothing, Mco1, Mco2, Strategy, Count, Small, Shown, Digits}

-- a key beside its name: the kind of its value, and where its bytes stand on a sheet
abbrev pub listed : String → Kind → (place : ℕ) → List ℕ × Key
listed name kind place = (codes name, record { kind = kind; place = place })

-- the keys, by number: the clocks, bypass, the clock outputs, each PLL with its outputs, the chip's numbers, what is shown, the bytes of a request.
-- Places are those of docs/CODES.md, A request as bytes; behind the 106 bytes of a request stand the chip's seven numbers, what is shown, and how
-- many bytes of a request are given
unfoldable pub keys : List (List ℕ × Key)
keys =
    listed "hse" Hertz 0
    ∷ listed "lse" Hertz 5
    ∷ listed "audio" Hertz 10
    ∷ listed "sys" Hertz 15
    ∷ listed "per" Hertz 20
    ∷ listed "ahb" Hertz 25
    ∷ listed "apb1" Hertz 30
    ∷ listed "apb2" Hertz 35
    ∷ listed "apb3" Hertz 40
    ∷ listed "bypass" Nothing 45
    ∷ listed "mco1" Mco1 46
    ∷ listed "mco2" Mco2 52
    ∷ listed "pll1" Strategy 58
    ∷ listed "pll1.p" Hertz 59
    ∷ listed "pll1.q" Hertz 64
    ∷ listed "pll1.r" Hertz 69
    ∷ listed "pll2" Strategy 74
    ∷ listed "pll2.p" Hertz 75
    ∷ listed "pll2.q" Hertz 80
    ∷ listed "pll2.r" Hertz 85
    ∷ listed "pll3" Strategy 90
    ∷ listed "pll3.p" Hertz 91
    ∷ listed "pll3.q" Hertz 96
    ∷ listed "pll3.r" Hertz 101
    ∷ listed "chip" Count 106
    ∷ listed "odd1" Small 107
    ∷ listed "odd2" Small 108
    ∷ listed "odd3" Small 109
    ∷ listed "scale" Small 110
    ∷ listed "hsion" Small 111
    ∷ listed "hsidiv" Small 112
    ∷ listed "show" Shown 113
    ∷ listed "bytes" Digits 114
    ∷ []

-- their names
abbrev pub key_names : List (List ℕ)
key_names = map (λ row. row.0) keys

-- key k; a key without a value at the start past the last one
abbrev pub key_at : ℕ → Key
key_at k = (get_or keys k (listed "" Nothing 0)).1

-- sources of MCO1, by their codes
unfoldable pub mco1_names : List (List ℕ)
mco1_names = table_of ("hsi" ∷ "lse" ∷ "hse" ∷ "pll1q" ∷ "hsi48" ∷ [])

-- sources of MCO2, by their codes
unfoldable pub mco2_names : List (List ℕ)
mco2_names = table_of ("sysclk" ∷ "pll2p" ∷ "hse" ∷ "pll1p" ∷ "csi" ∷ "lsi" ∷ [])

-- strategies, by their codes
unfoldable pub strategy_names : List (List ℕ)
strategy_names = table_of ("integer" ∷ "fractional" ∷ [])

-- PLL counts, less 2
unfoldable pub count_names : List (List ℕ)
count_names = table_of ("two" ∷ "three" ∷ [])

-- what is shown
unfoldable pub show_names : List (List ℕ)
show_names = table_of ("plan" ∷ "entries" ∷ "bank" ∷ "bytes" ∷ [])
