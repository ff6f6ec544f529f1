-- 01's exchange and time codes, of the definitions, by computation.
use mathlib.Core.Path.{◌≡◌, refl}
use mathlib.Core.List.{List, flat_map}
use Rattle.telegram.specs.Time.{tenths_of}
use Rattle.telegram.specs.Cutting.{stream_of, frames_of, header_of, frame_at}
use Rattle.telegram.specs.Kinds.{bad_block, kind_of}
use Rattle.opening.specs.Opening.{reply_read}
use Rattle.profile.specs.Profile.{within, sorted_by}
use Rattle.profile.specs.Opening.{request_for, reply_for, named}
use Rattle.settings.specs.Settings.{allowed_by}
use Rattle.sender.specs.Sending.{offered, distance, on_ack, heard, passed, frame_due, first_number, handed}
use Rattle.receiver.specs.Receiving.{settled, numbered, filled, on_first, on_later, on_data, received, copied, buffered, took}
use Rattle.channel.specs.Opened.{wait_ends, elapsed, test_due, hand_ack, hand_data, due, sent}
use Rattle.arrival.specs.Arrived.{answered, on_data as data_on, on_ack as ack_on, arrived}
use Rattle.open_end.specs.OpenEnd.{course_of, arrived_at, buffered_at, elapsed_at, frame_on, due_at, sent_at, taken_at}
use Rattle.connection.specs.Record.{listens_on, hears}
use Rattle.connection.specs.Calls.{opening_as, on_reply, on_accept, on_agreeing, settled as settled_on, on_open, arrived as arrives, buffered as buffered_on, open_elapsed, elapsed as elapses, closed_due, request_due, open_due, due_of, open_sent, sent_by, open_taken, taken_by, closed}
use Rattle.exchange.specs.Exchange.{After, step, run, replayed, put_out, printed, answers, all_good}

-- the exchange, with all that it runs through unfolded
computed : List After
unfolding flat_map tenths_of stream_of frames_of header_of frame_at bad_block kind_of reply_read reply_for named request_for sorted_by allowed_by within offered distance on_ack heard passed frame_due first_number handed settled numbered filled on_first on_later on_data received copied buffered took wait_ends elapsed test_due hand_ack hand_data due sent answered data_on ack_on arrived course_of arrived_at buffered_at elapsed_at frame_on due_at sent_at taken_at listens_on hears opening_as on_reply on_accept on_agreeing settled_on on_open arrives buffered_on open_elapsed elapses closed_due request_due open_due due_of open_sent sent_by open_taken taken_by closed step run replayed put_out answers
computed = replayed

-- what comes out of the exchange and of the time codes is what 01 prints
pub exchange : put_out ≡ printed
unfolding computed
exchange = refl

-- and every call on the way is answered 0, the two Acks with done
pub all-good : answers ≡ all_good
unfolding computed
all-good = refl
