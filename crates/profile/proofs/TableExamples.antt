-- Which properties each type of object has (12), by their numbers, and the name of each (21).
use Rattle.std.specs.Prelude.{◌≡◌, refl, ℕ, true, false, nat_lt, Some, option_map, codes, List, [], ◌∷◌, ◌++◌, map, filter, fold}
use Rattle.profile.specs.Numbers.{Normal, NoFaultDetected}
use Rattle.profile.specs.Times.{no_stamp}
use Rattle.profile.specs.Tables.{Row, Shown, object_rows, log_rows, class_rows, device_rows, row_of}
use Rattle.profile.proofs.Samples.{tank, flow, pump, mode, doors, note, range, full, plain, log, class, device}

abbrev pub shown : Shown
shown = record { state = Normal; reliability = NoFaultDetected; acknowledged = λ t. true; stamp = λ t. no_stamp; came = λ t. false; inhibited = false }

-- the numbers of the rows that are there, ascending
abbrev pub numbers : List Row → List ℕ
numbers rows = fold (λ list n. filter (λ other. nat_lt other n) list ++ n ∷ filter (λ other. nat_lt n other) list) [] (map (λ (row : Row). row.number) (filter (λ row. row.there) rows))

pub a_tank_has : numbers (object_rows shown tank) ≡ 0 ∷ 17 ∷ 25 ∷ 35 ∷ 36 ∷ 45 ∷ 52 ∷ 59 ∷ 72 ∷ 75 ∷ 77 ∷ 79 ∷ 81 ∷ 85 ∷ 103 ∷ 111 ∷ 113 ∷ 130 ∷ 353 ∷ 354 ∷ 357 ∷ []
a_tank_has = refl

pub a_flow_has : numbers (object_rows shown flow) ≡ 0 ∷ 17 ∷ 25 ∷ 35 ∷ 36 ∷ 45 ∷ 52 ∷ 59 ∷ 72 ∷ 75 ∷ 77 ∷ 79 ∷ 81 ∷ 85 ∷ 103 ∷ 111 ∷ 113 ∷ 130 ∷ 353 ∷ 354 ∷ 357 ∷ []
a_flow_has = refl

pub a_pump_has : numbers (object_rows shown pump) ≡ 0 ∷ 6 ∷ 17 ∷ 35 ∷ 36 ∷ 72 ∷ 75 ∷ 77 ∷ 79 ∷ 81 ∷ 85 ∷ 103 ∷ 111 ∷ 113 ∷ 130 ∷ 353 ∷ 354 ∷ 357 ∷ []
a_pump_has = refl

pub a_mode_has : numbers (object_rows shown mode) ≡ 0 ∷ 7 ∷ 17 ∷ 35 ∷ 36 ∷ 39 ∷ 72 ∷ 74 ∷ 75 ∷ 77 ∷ 79 ∷ 81 ∷ 85 ∷ 103 ∷ 111 ∷ 113 ∷ 130 ∷ 353 ∷ 354 ∷ 357 ∷ []
a_mode_has = refl

pub doors_have : numbers (object_rows shown doors) ≡ 0 ∷ 7 ∷ 17 ∷ 35 ∷ 36 ∷ 72 ∷ 75 ∷ 77 ∷ 79 ∷ 81 ∷ 85 ∷ 103 ∷ 111 ∷ 113 ∷ 130 ∷ 353 ∷ 354 ∷ 357 ∷ []
doors_have = refl

pub a_note_has : numbers (object_rows shown note) ≡ 0 ∷ 7 ∷ 17 ∷ 35 ∷ 36 ∷ 39 ∷ 72 ∷ 75 ∷ 77 ∷ 79 ∷ 81 ∷ 85 ∷ 103 ∷ 111 ∷ 113 ∷ 130 ∷ 353 ∷ 354 ∷ 357 ∷ []
a_note_has = refl

pub a_range_has : numbers (object_rows shown range) ≡ 0 ∷ 17 ∷ 35 ∷ 36 ∷ 37 ∷ 72 ∷ 75 ∷ 77 ∷ 79 ∷ 103 ∷ 111 ∷ 130 ∷ 353 ∷ 354 ∷ []
a_range_has = refl

pub a_tank_with_all_has : numbers (object_rows shown full) ≡ 0 ∷ 17 ∷ 25 ∷ 35 ∷ 36 ∷ 45 ∷ 52 ∷ 59 ∷ 72 ∷ 75 ∷ 77 ∷ 79 ∷ 81 ∷ 85 ∷ 103 ∷ 111 ∷ 113 ∷ 130 ∷ 351 ∷ 352 ∷ 353 ∷ 354 ∷ 355 ∷ 356 ∷ 357 ∷ []
a_tank_with_all_has = refl

pub a_range_with_all_has : numbers (object_rows shown (record range { detection = full.detection })) ≡ 0 ∷ 17 ∷ 35 ∷ 36 ∷ 37 ∷ 72 ∷ 75 ∷ 77 ∷ 79 ∷ 103 ∷ 111 ∷ 130 ∷ 351 ∷ 352 ∷ 353 ∷ 354 ∷ 355 ∷ []
a_range_with_all_has = refl

pub a_plain_tank_has : numbers (object_rows shown (plain tank)) ≡ 36 ∷ 75 ∷ 77 ∷ 79 ∷ 81 ∷ 85 ∷ 103 ∷ 111 ∷ 357 ∷ []
a_plain_tank_has = refl

pub a_plain_flow_has : numbers (object_rows shown (plain flow)) ≡ 36 ∷ 75 ∷ 77 ∷ 79 ∷ 81 ∷ 85 ∷ 103 ∷ 111 ∷ 357 ∷ []
a_plain_flow_has = refl

pub a_plain_pump_has : numbers (object_rows shown (plain pump)) ≡ 36 ∷ 75 ∷ 77 ∷ 79 ∷ 81 ∷ 85 ∷ 103 ∷ 111 ∷ 357 ∷ []
a_plain_pump_has = refl

pub a_plain_doors_has : numbers (object_rows shown (plain doors)) ≡ 36 ∷ 75 ∷ 77 ∷ 79 ∷ 81 ∷ 85 ∷ 103 ∷ 111 ∷ 357 ∷ []
a_plain_doors_has = refl

pub a_plain_mode_has : numbers (object_rows shown (plain mode)) ≡ 36 ∷ 39 ∷ 74 ∷ 75 ∷ 77 ∷ 79 ∷ 81 ∷ 85 ∷ 103 ∷ 111 ∷ 357 ∷ []
a_plain_mode_has = refl

pub a_plain_note_has : numbers (object_rows shown (plain note)) ≡ 36 ∷ 39 ∷ 75 ∷ 77 ∷ 79 ∷ 81 ∷ 85 ∷ 103 ∷ 111 ∷ 357 ∷ []
a_plain_note_has = refl

pub a_log_has : numbers (log_rows log true 0 0) ≡ 75 ∷ 77 ∷ 79 ∷ 126 ∷ 133 ∷ 141 ∷ 144 ∷ 145 ∷ []
a_log_has = refl

pub a_class_has : numbers (class_rows class) ≡ 1 ∷ 17 ∷ 75 ∷ 77 ∷ 79 ∷ 86 ∷ 102 ∷ []
a_class_has = refl

pub a_device_has : numbers (device_rows device []) ≡ 62 ∷ 75 ∷ 76 ∷ 77 ∷ 79 ∷ 107 ∷ 120 ∷ []
a_device_has = refl

pub tank_75_is_named : option_map (λ (row : Row). row.name) (row_of 75 (object_rows shown full)) ≡ Some (codes "Object_Identifier")
tank_75_is_named = refl

pub tank_77_is_named : option_map (λ (row : Row). row.name) (row_of 77 (object_rows shown full)) ≡ Some (codes "Object_Name")
tank_77_is_named = refl

pub tank_79_is_named : option_map (λ (row : Row). row.name) (row_of 79 (object_rows shown full)) ≡ Some (codes "Object_Type")
tank_79_is_named = refl

pub tank_85_is_named : option_map (λ (row : Row). row.name) (row_of 85 (object_rows shown full)) ≡ Some (codes "Present_Value")
tank_85_is_named = refl

pub tank_111_is_named : option_map (λ (row : Row). row.name) (row_of 111 (object_rows shown full)) ≡ Some (codes "Status_Flags")
tank_111_is_named = refl

pub tank_36_is_named : option_map (λ (row : Row). row.name) (row_of 36 (object_rows shown full)) ≡ Some (codes "Event_State")
tank_36_is_named = refl

pub tank_103_is_named : option_map (λ (row : Row). row.name) (row_of 103 (object_rows shown full)) ≡ Some (codes "Reliability")
tank_103_is_named = refl

pub tank_81_is_named : option_map (λ (row : Row). row.name) (row_of 81 (object_rows shown full)) ≡ Some (codes "Out_Of_Service")
tank_81_is_named = refl

pub tank_357_is_named : option_map (λ (row : Row). row.name) (row_of 357 (object_rows shown full)) ≡ Some (codes "Reliability_Evaluation_Inhibit")
tank_357_is_named = refl

pub tank_113_is_named : option_map (λ (row : Row). row.name) (row_of 113 (object_rows shown full)) ≡ Some (codes "Time_Delay")
tank_113_is_named = refl

pub tank_356_is_named : option_map (λ (row : Row). row.name) (row_of 356 (object_rows shown full)) ≡ Some (codes "Time_Delay_Normal")
tank_356_is_named = refl

pub tank_45_is_named : option_map (λ (row : Row). row.name) (row_of 45 (object_rows shown full)) ≡ Some (codes "High_Limit")
tank_45_is_named = refl

pub tank_59_is_named : option_map (λ (row : Row). row.name) (row_of 59 (object_rows shown full)) ≡ Some (codes "Low_Limit")
tank_59_is_named = refl

pub tank_25_is_named : option_map (λ (row : Row). row.name) (row_of 25 (object_rows shown full)) ≡ Some (codes "Deadband")
tank_25_is_named = refl

pub tank_52_is_named : option_map (λ (row : Row). row.name) (row_of 52 (object_rows shown full)) ≡ Some (codes "Limit_Enable")
tank_52_is_named = refl

pub tank_35_is_named : option_map (λ (row : Row). row.name) (row_of 35 (object_rows shown full)) ≡ Some (codes "Event_Enable")
tank_35_is_named = refl

pub tank_354_is_named : option_map (λ (row : Row). row.name) (row_of 354 (object_rows shown full)) ≡ Some (codes "Event_Algorithm_Inhibit")
tank_354_is_named = refl

pub tank_0_is_named : option_map (λ (row : Row). row.name) (row_of 0 (object_rows shown full)) ≡ Some (codes "Acked_Transitions")
tank_0_is_named = refl

pub tank_72_is_named : option_map (λ (row : Row). row.name) (row_of 72 (object_rows shown full)) ≡ Some (codes "Notify_Type")
tank_72_is_named = refl

pub tank_353_is_named : option_map (λ (row : Row). row.name) (row_of 353 (object_rows shown full)) ≡ Some (codes "Event_Detection_Enable")
tank_353_is_named = refl

pub tank_17_is_named : option_map (λ (row : Row). row.name) (row_of 17 (object_rows shown full)) ≡ Some (codes "Notification_Class")
tank_17_is_named = refl

pub tank_130_is_named : option_map (λ (row : Row). row.name) (row_of 130 (object_rows shown full)) ≡ Some (codes "Event_Time_Stamps")
tank_130_is_named = refl

pub tank_355_is_named : option_map (λ (row : Row). row.name) (row_of 355 (object_rows shown full)) ≡ Some (codes "Event_Algorithm_Inhibit_Ref")
tank_355_is_named = refl

pub tank_351_is_named : option_map (λ (row : Row). row.name) (row_of 351 (object_rows shown full)) ≡ Some (codes "Event_Message_Texts")
tank_351_is_named = refl

pub tank_352_is_named : option_map (λ (row : Row). row.name) (row_of 352 (object_rows shown full)) ≡ Some (codes "Event_Message_Texts_Config")
tank_352_is_named = refl

pub pump_6_is_named : option_map (λ (row : Row). row.name) (row_of 6 (object_rows shown pump)) ≡ Some (codes "Alarm_Value")
pump_6_is_named = refl

pub mode_7_is_named : option_map (λ (row : Row). row.name) (row_of 7 (object_rows shown mode)) ≡ Some (codes "Alarm_Values")
mode_7_is_named = refl

pub mode_39_is_named : option_map (λ (row : Row). row.name) (row_of 39 (object_rows shown mode)) ≡ Some (codes "Fault_Values")
mode_39_is_named = refl

pub mode_74_is_named : option_map (λ (row : Row). row.name) (row_of 74 (object_rows shown mode)) ≡ Some (codes "Number_Of_States")
mode_74_is_named = refl

pub range_37_is_named : option_map (λ (row : Row). row.name) (row_of 37 (object_rows shown range)) ≡ Some (codes "Event_Type")
range_37_is_named = refl

pub log_133_is_named : option_map (λ (row : Row). row.name) (row_of 133 (log_rows log true 0 0)) ≡ Some (codes "Enable")
log_133_is_named = refl

pub log_141_is_named : option_map (λ (row : Row). row.name) (row_of 141 (log_rows log true 0 0)) ≡ Some (codes "Record_Count")
log_141_is_named = refl

pub log_126_is_named : option_map (λ (row : Row). row.name) (row_of 126 (log_rows log true 0 0)) ≡ Some (codes "Buffer_Size")
log_126_is_named = refl

pub log_144_is_named : option_map (λ (row : Row). row.name) (row_of 144 (log_rows log true 0 0)) ≡ Some (codes "Stop_When_Full")
log_144_is_named = refl

pub log_145_is_named : option_map (λ (row : Row). row.name) (row_of 145 (log_rows log true 0 0)) ≡ Some (codes "Total_Record_Count")
log_145_is_named = refl

pub class_86_is_named : option_map (λ (row : Row). row.name) (row_of 86 (class_rows class)) ≡ Some (codes "Priority")
class_86_is_named = refl

pub class_1_is_named : option_map (λ (row : Row). row.name) (row_of 1 (class_rows class)) ≡ Some (codes "Ack_Required")
class_1_is_named = refl

pub class_102_is_named : option_map (λ (row : Row). row.name) (row_of 102 (class_rows class)) ≡ Some (codes "Recipient_List")
class_102_is_named = refl

pub device_76_is_named : option_map (λ (row : Row). row.name) (row_of 76 (device_rows device [])) ≡ Some (codes "Object_List")
device_76_is_named = refl

pub device_62_is_named : option_map (λ (row : Row). row.name) (row_of 62 (device_rows device [])) ≡ Some (codes "Max_APDU_Length_Accepted")
device_62_is_named = refl

pub device_107_is_named : option_map (λ (row : Row). row.name) (row_of 107 (device_rows device [])) ≡ Some (codes "Segmentation_Supported")
device_107_is_named = refl

pub device_120_is_named : option_map (λ (row : Row). row.name) (row_of 120 (device_rows device [])) ≡ Some (codes "Vendor_Identifier")
device_120_is_named = refl
