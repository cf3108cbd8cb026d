-- The numbers of application tags (ANSI/ASHRAE 135-2020, 20.2.1.4).
use Rattle.std.specs.Prelude.{ℕ}

abbrev pub null_tag : ℕ
null_tag = 0

abbrev pub boolean_tag : ℕ
boolean_tag = 1

abbrev pub unsigned_tag : ℕ
unsigned_tag = 2

abbrev pub signed_tag : ℕ
signed_tag = 3

abbrev pub real_tag : ℕ
real_tag = 4

abbrev pub double_tag : ℕ
double_tag = 5

abbrev pub octet_string_tag : ℕ
octet_string_tag = 6

abbrev pub character_string_tag : ℕ
character_string_tag = 7

abbrev pub bit_string_tag : ℕ
bit_string_tag = 8

abbrev pub enumerated_tag : ℕ
enumerated_tag = 9

abbrev pub date_tag : ℕ
date_tag = 10

abbrev pub time_tag : ℕ
time_tag = 11

abbrev pub object_identifier_tag : ℕ
object_identifier_tag = 12
