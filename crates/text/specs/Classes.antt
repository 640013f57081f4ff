-- The class of a byte (01, "In text": each of the 256 byte values has one class: digit, space, one of & | ( ) [ ] ., or other). Definitions only.
use Rattle.std.specs.Prelude.{Bool, true, false, ◌&&◌, ℕ, ◌-◌, leb, eqb}
use Rattle.text.specs.declared.classes.Class.{Class}
use Rattle.text.specs.declared.classes.Class.TheVariants.{Digit, Space, Ampersand, Bar, LeftParenthesis, RightParenthesis}
use Rattle.text.specs.declared.classes.Class.TheVariants.{LeftBracket, RightBracket, Dot, Other}

-- the classes, by number
abbrev pub digit : ℕ
digit = 0

abbrev pub space : ℕ
space = 1

abbrev pub amp : ℕ
amp = 2

abbrev pub bar : ℕ
bar = 3

abbrev pub lpar : ℕ
lpar = 4

abbrev pub rpar : ℕ
rpar = 5

abbrev pub lbra : ℕ
lbra = 6

abbrev pub rbra : ℕ
rbra = 7

abbrev pub dot : ℕ
dot = 8

abbrev pub other : ℕ
other = 9

abbrev pub pick : {A : Type 0} → Bool → A → A → A
pick true a b = a
pick false a b = b

-- the class of the byte x
unfoldable pub class_of : ℕ → ℕ
class_of x =
    pick (leb 48 x && leb x 57) digit
    (pick (eqb x 32) space
    (pick (eqb x 38) amp
    (pick (eqb x 124) bar
    (pick (eqb x 40) lpar
    (pick (eqb x 41) rpar
    (pick (eqb x 91) lbra
    (pick (eqb x 93) rbra
    (pick (eqb x 46) dot other))))))))

-- the number of a class of the code
abbrev pub class_number : Class → ℕ
class_number Digit = digit
class_number Space = space
class_number Ampersand = amp
class_number Bar = bar
class_number LeftParenthesis = lpar
class_number RightParenthesis = rpar
class_number LeftBracket = lbra
class_number RightBracket = rbra
class_number Dot = dot
class_number Other = other

-- what a digit counts
unfoldable pub value : ℕ → ℕ
value x = x - 48

abbrev pub is_space : ℕ → Bool
is_space x = eqb (class_of x) space
