-- Numbers and hertz in decimal. docs/CODES.md, A request in words.
use Rattle.std.specs.Prelude.{Bool, cond, ◌&&◌, List, [], ◌∷◌, Option, None, Some, option_and_then, ℕ, ◌+◌, ◌-◌, ◌*◌, ◌^◌, ltb, leb, eqb, length, get_or, take}
use Rattle.text.specs.Names.{before, behind, lacks}

-- 0 to 9 in ASCII
abbrev pub is_digit : ℕ → Bool
is_digit b = leb 48 b && leb b 57

-- a number with one more digit
abbrev pub with_digit : ℕ → ℕ → ℕ
with_digit v b = 10 * v + (b - 48)

-- the same below 2^32; none where the byte is no digit, or the number reaches 2^32
abbrev pub read_digit : ℕ → ℕ → Option ℕ
read_digit v b = cond (is_digit b && ltb (with_digit v b) 4_294_967_296) (Some (with_digit v b)) None

-- digits read on from v
unfoldable pub read_on : ℕ → List ℕ → Option ℕ
read_on v [] = Some v
read_on v (b ∷ bs) = option_and_then (λ w. read_on w bs) (read_digit v b)

-- the same, of at least one digit
unfoldable pub read_some : ℕ → List ℕ → Option ℕ
read_some v [] = None
read_some v (b ∷ bs) = read_on v (b ∷ bs)

-- a number times 10^k; none where it reaches 2^32
abbrev pub times_ten : ℕ → ℕ → Option ℕ
times_ten k v = cond (ltb (v * 10 ^ k) 4_294_967_296) (Some (v * 10 ^ k)) None

-- digits before and behind a point, in a unit of so many zeros. At most as many digits stand behind it as the unit has zeros
unfoldable pub with_places : (unit : ℕ) → (whole places : List ℕ) → Option ℕ
with_places unit whole places =
    cond (ltb unit (length places)) None
    (option_and_then (times_ten (unit - length places)) (option_and_then (λ v. read_some v places) (read_some 0 whole)))

-- digits with a point among them or not, in a unit of so many zeros
unfoldable pub pointed_by : (unit : ℕ) → List ℕ → Option ℕ
pointed_by unit s =
    cond (lacks 46 s) (option_and_then (times_ten unit) (read_some 0 s)) (with_places unit (before 46 s) (behind 46 s))

-- the zeros of a unit: k has three, M six; any other byte is none
abbrev pub unit_of : ℕ → Option ℕ
unit_of b = cond (eqb b 107) (Some 3) (cond (eqb b 77) (Some 6) None)

-- the last byte; 0 of an empty text
abbrev pub last_of : List ℕ → ℕ
last_of s = get_or s (length s - 1) 0

-- hertz whose last byte is a unit with so many zeros, or none
abbrev pub hertz_in : Option ℕ → List ℕ → Option ℕ
hertz_in None s = pointed_by 0 s
hertz_in (Some zeros) s = pointed_by zeros (take (length s - 1) s)

-- hertz: 25000000, 25M, 12.288M, 32k
unfoldable pub hertz_of : List ℕ → Option ℕ
hertz_of s = hertz_in (unit_of (last_of s)) s
