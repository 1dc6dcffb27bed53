-- Defines the request of a line, whose texts are borrowed.
use Rattle.rb_engine.specs.Source.{change_request, payload_of}
use Rattle.rb_engine.specs.declared.request.Request.{Request}
use Rattle.rb_engine.specs.declared.request.Request.TheVariants as request
use Rattle.rb_requests.specs.declared.ask.LineRequest.{LineRequest}
use Rattle.rb_requests.specs.declared.ask.LineRequest.TheVariants as asked

abbrev pub request_of : LineRequest → Request
request_of (asked.Change change app locale source) = change_request change app.now locale.now (payload_of source)
request_of (asked.Remove app locale) = request.Remove app.now locale.now
request_of (asked.List app) = request.List app.now
