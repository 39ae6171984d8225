-- Bytes with given sums t: they are the numbers before the powers of x in the polynomial that is t at 1, α, α², .. . Newton's differences
-- give it, and since the places are powers of α, one division for each order of difference is enough.
-- Assumes nothing.
use Rattle.std.specs.Prelude.{List, [], ◌∷◌, T}
use Rattle.field.specs.Field.{times_alpha, power, mul, mul_bits}
use Rattle.codeword.specs.Code.{sum}
use Rattle.codeword.specs.Parity.LinearForms.{Form, byte, plus, alpha, times, solves}

-- ---- two bytes: 244 is the inverse of 1 + α

abbrev slope : Form
slope = times (plus (byte 0) (byte 1)) 244

unfoldable pub two_forms : List Form
two_forms = slope ∷ plus (byte 0) slope ∷ []

pub two_solve : T (solves two_forms)
unfolding solves two_forms sum mul mul_bits times_alpha power
two_solve = tt

-- ---- four bytes: 75 is the inverse of α(1 + α)(1 + α²), and 162 of α³(1 + α)(1 + α²)(1 + α³)

-- the differences of t, the differences of those, and their difference
abbrev first0 : Form
first0 = plus (byte 0) (byte 1)

abbrev first1 : Form
first1 = plus (byte 1) (byte 2)

abbrev second0 : Form
second0 = plus first1 (alpha first0)

abbrev second1 : Form
second1 = plus (plus (byte 2) (byte 3)) (alpha first1)

abbrev third : Form
third = plus second1 (alpha (alpha second0))

-- the polynomial t0 + (x + 1) (first0 / .. + (x + α) (second0 / .. + (x + α²) lead)), multiplied out from within:
-- lead x + inner, then lead x² + middle1 x + middle0
abbrev lead : Form
lead = times third 162

abbrev inner : Form
inner = plus (times second0 75) (alpha (alpha lead))

abbrev middle1 : Form
middle1 = plus inner (alpha lead)

abbrev middle0 : Form
middle0 = plus (alpha inner) (times first0 244)

unfoldable pub four_forms : List Form
four_forms = lead ∷ plus middle1 lead ∷ plus middle0 middle1 ∷ plus middle0 (byte 0) ∷ []

pub four_solve : T (solves four_forms)
unfolding solves four_forms sum mul mul_bits times_alpha power
four_solve = tt
