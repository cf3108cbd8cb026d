-- The text of the workload's site: a device, three classes, five destinations, forty objects, two enrollments, and two logs.
use Rattle.std.specs.Prelude.{ℕ, ◌+◌, ◌*◌, ◌%◌, ◌==◌, ◌||◌, zero, suc, Bool, List, [], ◌++◌, codes, if◌then◌else◌}
use Rattle.std.specs.Fmt.{decimal}
use Rattle.work_load.specs.declared.kind.Kind.{Kind}
use Rattle.work_load.specs.declared.kind.Kind.TheVariants.{Integer, PositiveInteger, Binary, MultiState, BitString, CharacterString}
use Rattle.work_load.specs.Kinds.{kind_at, kind_name}

abbrev pub device_text : List ℕ
device_text = codes "[device]\ninstance = 2000\nstart = 1700000000000\n"

-- class 1, 2 or 3
abbrev pub class_text : ℕ → List ℕ
class_text class =
    codes "\n[[class]]\ninstance = " ++ (decimal class ++ (codes "\npriority = [" ++ (decimal (10 * class) ++ (codes ", " ++ (decimal (20 * class) ++ (codes ", " ++ (decimal (30 * class) ++ codes "]\nack_required = [true, true, false]\n")))))))

-- a destination of a class, with the process identifier that is the last number of its address
abbrev pub destination_text : ℕ → ℕ → List ℕ → List ℕ
destination_text process class confirmed =
    codes "\n[[destination]]\nclass = " ++ (decimal class ++ (codes "\naddress = \"10.1.0." ++ (decimal process ++ (codes ":47808\"\nprocess = " ++ (decimal process ++ (codes "\nconfirmed = " ++ (confirmed ++ codes "\n")))))))

-- what an object of a kind is set to
abbrev pub settings_text : Kind → List ℕ
settings_text Integer = codes "value = 50\nlow = 20\nhigh = 80\ndeadband = 5\n"
settings_text PositiveInteger = codes "value = 50\nlow = 20\nhigh = 80\ndeadband = 5\n"
settings_text Binary = codes "value = \"inactive\"\nalarm_value = \"active\"\n"
settings_text MultiState = codes "value = 1\nstates = 4\nalarm_values = [3, 4]\n"
settings_text BitString = codes "value = \"0000\"\nmask = \"0011\"\nalarm_values = [\"0001\", \"0010\"]\n"
settings_text CharacterString = codes "value = \"ok\"\nalarm_values = [\"fire\", \"leak\"]\n"

abbrev pub object_text : ℕ → List ℕ
object_text instance =
    codes "\n[[object]]\nkind = \"" ++ (kind_name (kind_at instance) ++ (codes "\"\ninstance = " ++ (decimal instance ++ (codes "\nclass = " ++ (decimal (1 + instance % 3) ++ (codes "\ntime_delay = " ++ (decimal (5 + instance % 4) ++ (codes "\n" ++ settings_text (kind_at instance)))))))))

-- so many objects, from instance 0 on
unfoldable pub objects_text : ℕ → List ℕ
objects_text zero = []
objects_text (suc count) = objects_text count ++ object_text count

abbrev pub classes_text : List ℕ
classes_text = class_text 1 ++ (class_text 2 ++ class_text 3)

abbrev pub destinations_text : List ℕ
destinations_text =
    destination_text 1 1 (codes "true")
    ++ (destination_text 2 1 (codes "false")
    ++ (destination_text 3 2 (codes "true")
    ++ (destination_text 4 3 (codes "true") ++ destination_text 5 3 (codes "false"))))

abbrev pub enrollments_text : List ℕ
enrollments_text =
    codes "\n[[enrollment]]\ninstance = 1\nclass = 1\nalgorithm = \"unsigned-range\"\nmonitored = \"positive-integer-value:1\"\nlow = 20\nhigh = 80\ntime_delay = 5\n"
    ++ codes "\n[[enrollment]]\ninstance = 2\nclass = 1\nalgorithm = \"command-failure\"\nmonitored = \"integer-value:0\"\nfeedback = \"integer-value:6\"\ntime_delay = 5\n"

abbrev pub logs_text : List ℕ
logs_text =
    codes "\n[[log]]\ninstance = 1\nsize = 64\nclasses = [1, 2]\n"
    ++ codes "\n[[log]]\ninstance = 2\nsize = 64\nstop_when_full = true\nclasses = [3]\n"

-- the whole text
abbrev pub workload_site : List ℕ
workload_site = device_text ++ (classes_text ++ (destinations_text ++ (objects_text 40 ++ (enrollments_text ++ logs_text))))
