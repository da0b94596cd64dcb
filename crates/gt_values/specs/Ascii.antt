-- Characters of ASCII that formats name.
use Rattle.std.specs.Prelude.{ℕ}

-- the end of a line
abbrev pub line_feed : ℕ
line_feed = 10

-- what stands before the end of a line in HTTP
abbrev pub carriage_return : ℕ
carriage_return = 13

-- what stands between words
abbrev pub space : ℕ
space = 32

-- `!`
abbrev pub exclamation_mark : ℕ
exclamation_mark = 33

-- `*`
abbrev pub asterisk : ℕ
asterisk = 42

-- `+`
abbrev pub plus : ℕ
plus = 43

-- `-`
abbrev pub hyphen : ℕ
hyphen = 45

-- `.`
abbrev pub full_stop : ℕ
full_stop = 46

-- `/`
abbrev pub slash : ℕ
slash = 47

-- `0`, the first of the ten digits
abbrev pub digit_zero : ℕ
digit_zero = 48

-- `:`
abbrev pub colon : ℕ
colon = 58

-- `?`
abbrev pub question_mark : ℕ
question_mark = 63

-- `A`
abbrev pub upper_a : ℕ
upper_a = 65

-- `F`
abbrev pub upper_f : ℕ
upper_f = 70

-- `T`
abbrev pub upper_t : ℕ
upper_t = 84

-- `Z`
abbrev pub upper_z : ℕ
upper_z = 90

-- `[`
abbrev pub opening_bracket : ℕ
opening_bracket = 91

-- `]`
abbrev pub closing_bracket : ℕ
closing_bracket = 93

-- `a`
abbrev pub lower_a : ℕ
lower_a = 97

-- `t`
abbrev pub lower_t : ℕ
lower_t = 116

-- `z`
abbrev pub lower_z : ℕ
lower_z = 122

-- `{`
abbrev pub opening_brace : ℕ
opening_brace = 123

-- `}`
abbrev pub closing_brace : ℕ
closing_brace = 125

-- `~`
abbrev pub tilde : ℕ
tilde = 126
