-- The numbers given back (01, "Numbers given back"), by name. Definitions only.
use Rattle.std.specs.Prelude.{ℕ}

-- done or granted
abbrev pub done : ℕ
done = 0

-- mark wrong
abbrev pub mark_wrong : ℕ
mark_wrong = 1

-- version not 1
abbrev pub version_wrong : ℕ
version_wrong = 2

-- image ends early
abbrev pub ends_early : ℕ
ends_early = 3

-- count out of range
abbrev pub count_wrong : ℕ
count_wrong = 4

-- parent not smaller
abbrev pub parent_wrong : ℕ
parent_wrong = 5

-- expression wrong
abbrev pub expression_wrong : ℕ
expression_wrong = 6

-- bytes left over
abbrev pub left_over : ℕ
left_over = 7

-- slot number over 15
abbrev pub no_slot : ℕ
no_slot = 8

-- slot free
abbrev pub slot_free : ℕ
slot_free = 9

-- slot taken
abbrev pub slot_taken : ℕ
slot_taken = 10

-- no such role
abbrev pub no_role : ℕ
no_role = 11

-- no such file
abbrev pub no_file : ℕ
no_file = 12

-- no such mode
abbrev pub no_mode : ℕ
no_mode = 13

-- row not passed
abbrev pub row_not_passed : ℕ
row_not_passed = 14

-- mediating sets don't fit
abbrev pub mediating_unfit : ℕ
mediating_unfit = 15

-- bypass set lacks a securon
abbrev pub bypass_lacks : ℕ
bypass_lacks = 16

-- state not well formed
abbrev pub ill_formed : ℕ
ill_formed = 17

-- text wrong
abbrev pub text_wrong : ℕ
text_wrong = 18

-- text makes over 48 bytes
abbrev pub text_long : ℕ
text_long = 19

-- output buffer under 48 bytes; of a print, under 512
abbrev pub buffer_short : ℕ
buffer_short = 20
