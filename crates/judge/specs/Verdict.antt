use Rattle.std.specs.Prelude.{ℕ, zero, suc, ◌+◌, ◌/◌, ◌%◌, ◌^◌, Bool, true, false, cond, not, ◌&&◌, List, [], ◌∷◌, ◌++◌, map, length, take, Some, None, Ok, Err, Option, Result, ◌==◌, nat_le, nat_lt}
use Rattle.std.specs.List.{list_any, list_all, position}
use Rattle.sheet.specs.declared.row.Head.{Head}
use Rattle.sheet.specs.declared.row.Condition.{Condition}
use Rattle.sheet.specs.declared.row.Condition.TheVariants.{Always, One, Two, Three, Four}
use Rattle.sheet.specs.declared.row.Inputs.{Inputs}
use Rattle.sheet.specs.declared.row.Test.{Test}
use Rattle.sheet.specs.declared.row.Keep.{Keep}
use Rattle.sheet.specs.declared.row.Call.{Call}
use Rattle.sheet.specs.declared.row.Send.{Send}
use Rattle.judge.specs.declared.need.Need.{Need}
use Rattle.judge.specs.declared.need.Missing.{Missing}
use Rattle.sheet.specs.declared.row.Row.{Row}
use Rattle.sheet.specs.declared.row.Row.TheVariants.{Keep as keep_row, Call as call_row, Send as send_row}
use Rattle.judge.specs.declared.breach.Breach.{Breach}
use Rattle.judge.specs.declared.breach.Breach.TheVariants.{Outside, TestedTwice, TwoWriters, Clash, Unavailable}
use Rattle.fault.specs.declared.place.RowPlace.{RowPlace}
use Rattle.fault.specs.declared.place.RowPlace.TheVariants.{Row as of_row, Rows as of_rows, Variable as of_variable}
use Rattle.fault.specs.declared.refusal.Refusal.TheVariants.{Outside as outside_limits, TestedTwice as tested_twice, TwoWriters as two_writers_met, Clash as clash, Unavailable as unavailable}
use Rattle.fault.specs.declared.refusal.Fault.{Fault}
use Rattle.fault.specs.Scan.{first_bad}
use Rattle.sheet.specs.Rows.{tests_of, inputs_of, all_below}
use Rattle.judge.specs.Tests.{excluding, all_among, all_within, none_twice}

-- Fields within their limits, and keep rows in their place (7).

abbrev pub listens : ℕ → ℕ → Bool
listens listeners n = listeners / 2 ^ n % 2 == 1

abbrev pub listeners_exist : ℕ → ℕ → Bool
listeners_exist listeners stations = nat_lt listeners (2 ^ stations)

abbrev pub within_cycle : ℕ → ℕ → ℕ → Bool
within_cycle date duration cycle = nat_lt 0 duration && nat_le (date + duration) cycle

abbrev pub keep_within : Head → Keep → Bool
keep_within h k = nat_lt k.station h.stations && (nat_lt k.taken h.variables && nat_lt k.given h.variables)

abbrev pub call_within : Head → Call Condition → Bool
call_within h c =
    nat_lt c.station h.stations
    && (nat_le c.work 255
    && (all_below h.variables (inputs_of c.inputs)
    && (nat_lt c.output h.variables
    && (within_cycle c.date c.duration h.cycle
    && all_within h.variables (tests_of c.condition)))))

abbrev pub send_within : Head → Send Condition → Bool
send_within h s =
    nat_lt s.station h.stations
    && (nat_lt s.variable h.variables
    && (nat_lt 0 s.listeners
    && (listeners_exist s.listeners h.stations
    && (not (listens s.listeners s.station)
    && (within_cycle s.date s.duration h.cycle
    && all_within h.variables (tests_of s.condition))))))

abbrev pub fields_within : Head → Row → Bool
fields_within h (keep_row k) = keep_within h k
fields_within h (call_row c) = call_within h c
fields_within h (send_row s) = send_within h s

abbrev pub is_keep : Row → Bool
is_keep (keep_row k) = true
is_keep (call_row c) = false
is_keep (send_row s) = false

abbrev pub only_keeps : List Row → Bool
only_keeps above = list_all is_keep above

abbrev pub placed : List Row → Row → Bool
placed above (keep_row k) = nat_lt (length above) 16 && only_keeps above
placed above (call_row c) = true
placed above (send_row s) = true

abbrev pub within : Head → List Row → Row → Bool
within h above x = fields_within h x && placed above x

-- No variable twice in a condition (8).

abbrev pub tested_once : Row → Bool
tested_once (keep_row k) = true
tested_once (call_row c) = none_twice (tests_of c.condition)
tested_once (send_row s) = none_twice (tests_of s.condition)

-- Two writers of one variable (9).

abbrev pub two_writers : Row → Row → Bool
two_writers (keep_row k) (keep_row l) = k.given == l.given
two_writers (keep_row k) (call_row c) = k.given == c.output
two_writers (keep_row k) (send_row s) = false
two_writers (call_row c) (keep_row k) = c.output == k.given
two_writers (call_row c) (call_row d) =
    (c.output == d.output) && not (excluding (tests_of c.condition) (tests_of d.condition))
two_writers (call_row c) (send_row s) = false
two_writers (send_row s) x = false

-- Overlaps at a station and on the line (10).

abbrev pub calls_overlap : Call Condition → Call Condition → Bool
calls_overlap c d =
    (c.station == d.station)
    && (not (excluding (tests_of c.condition) (tests_of d.condition)) && nat_lt d.date (c.date + c.duration))

abbrev pub sends_overlap : Send Condition → Send Condition → Bool
sends_overlap s t =
    not (excluding (tests_of s.condition) (tests_of t.condition))
    && (nat_lt t.date (s.date + s.duration) && nat_lt s.date (t.date + t.duration))

abbrev pub overlapping : Row → Row → Bool
overlapping (keep_row k) x = false
overlapping (call_row c) (keep_row k) = false
overlapping (call_row c) (call_row d) = calls_overlap c d
overlapping (call_row c) (send_row s) = false
overlapping (send_row s) (keep_row k) = false
overlapping (send_row s) (call_row c) = false
overlapping (send_row s) (send_row t) = sends_overlap s t

abbrev pub first_writer : List Row → Row → Option ℕ
first_writer above x = position (λ u. two_writers u x) above

abbrev pub first_overlap : List Row → Row → Option ℕ
first_overlap above x = position (λ u. overlapping u x) above

-- What is available (11).

abbrev pub provides : Row → Need → Bool
provides (keep_row k) w = k.station == w.station && k.given == w.variable
provides (call_row c) w =
    (c.station == w.station)
    && (c.output == w.variable
    && (nat_le (c.date + c.duration) w.date && all_among (tests_of c.condition) (tests_of w.after)))
provides (send_row s) w =
    listens s.listeners w.station
    && (s.variable == w.variable
    && (nat_le (s.date + s.duration) w.date && all_among (tests_of s.condition) (tests_of w.after)))

abbrev pub available : List Row → Need → Bool
available above w = list_any (λ u. provides u w) above

-- The variable that a refusal names.
abbrev pub missing : Result (Unit {0}) Missing → Option ℕ
missing (Ok x) = None
missing (Err m) = Some m.variable

abbrev pub first_unavailable : List Row → List Need → Option ℕ
first_unavailable above [] = None
first_unavailable above (w ∷ ws) = cond (available above w) (first_unavailable above ws) (Some w.variable)

abbrev pub need_at : ℕ → ℕ → ℕ → Condition → Need
need_at station date variable after = record { station = station; variable = variable; date = date; after = after }

-- The condition with one more test, where it has fewer than four.
abbrev pub joined : Condition → Test → Condition
joined Always t = One t
joined (One a) t = Two a t
joined (Two a b) t = Three a b t
joined (Three a b c) t = Four a b c t
joined (Four a b c d) t = Four a b c d

-- Each tested variable, after the tests before it.
abbrev pub test_needs : ℕ → ℕ → Condition → List Need
test_needs s d Always = []
test_needs s d (One t) = need_at s d t.variable Always ∷ []
test_needs s d (Two t u) = need_at s d t.variable Always ∷ need_at s d u.variable (One t) ∷ []
test_needs s d (Three t u v) =
    need_at s d t.variable Always ∷ need_at s d u.variable (One t) ∷ need_at s d v.variable (Two t u) ∷ []
test_needs s d (Four t u v x) =
    need_at s d t.variable Always ∷ need_at s d u.variable (One t) ∷ need_at s d v.variable (Two t u)
    ∷ need_at s d x.variable (Three t u v) ∷ []

-- Each input, after all tests.
abbrev pub input_needs : Call Condition → Inputs → List Need
input_needs c i = map (λ v. need_at c.station c.date v c.condition) (inputs_of i)

-- Each tested variable at the station `n`, if it listens.
abbrev pub heard_needs : Send Condition → ℕ → List Need
heard_needs s n = cond (listens s.listeners n) (test_needs n s.date s.condition) []

-- The same at each of the `k` stations from `n`.
abbrev pub listener_needs : Send Condition → ℕ → ℕ → List Need
listener_needs s zero n = []
listener_needs s (suc k) n =
    heard_needs s n ++ listener_needs s k (n + 1)

abbrev pub call_needs : Call Condition → List Need
call_needs c = test_needs c.station c.date c.condition ++ input_needs c c.inputs

abbrev pub sent_needs : ℕ → Send Condition → List Need
sent_needs stations s = need_at s.station s.date s.variable s.condition ∷ listener_needs s stations 0

abbrev pub send_needs : ℕ → Send Condition → List Need
send_needs stations s = test_needs s.station s.date s.condition ++ sent_needs stations s

-- What a row needs, in the order in which it is tried.
abbrev pub needs_of : Head → Row → List Need
needs_of h (keep_row k) = []
needs_of h (call_row c) = call_needs c
needs_of h (send_row s) = send_needs h.stations s

-- The judge.

abbrev pub as_unavailable : Option ℕ → Option Breach
as_unavailable (Some v) = Some (Unavailable v)
as_unavailable None = None

abbrev pub or_clash : Option ℕ → Option Breach → Option Breach
or_clash (Some u) rest = Some (Clash u)
or_clash None rest = rest

abbrev pub or_writers : Option ℕ → Option Breach → Option Breach
or_writers (Some u) rest = Some (TwoWriters u)
or_writers None rest = rest

-- How a row breaks the rules below the rows above it, tried in turn.
abbrev pub breach_of : Head → List Row → Row → Option Breach
breach_of h above x =
    cond (within h above x)
    (cond (tested_once x)
    (or_writers (first_writer above x)
    (or_clash (first_overlap above x)
    (as_unavailable (first_unavailable above (needs_of h x)))))
    (Some TestedTwice))
    (Some Outside)

-- The refusal and the place of a breach of the row at `r`.
abbrev pub fault_of : ℕ → Breach → Fault RowPlace
fault_of r Outside = record { refusal = outside_limits; place = of_row r }
fault_of r TestedTwice = record { refusal = tested_twice; place = of_row r }
fault_of r (TwoWriters u) = record { refusal = two_writers_met; place = of_rows r u }
fault_of r (Clash u) = record { refusal = clash; place = of_rows r u }
fault_of r (Unavailable v) = record { refusal = unavailable; place = of_variable r v }

abbrev pub fault_here : Option (ℕ × Breach) → Option (Fault RowPlace)
fault_here None = None
fault_here (Some rb) = Some (fault_of rb.0 rb.1)

-- The first refusal of the rows, from the top.
abbrev pub verdict : Head → List Row → Option (Fault RowPlace)
verdict h rows = fault_here (first_bad (λ r x. breach_of h (take r rows) x) 0 rows)
